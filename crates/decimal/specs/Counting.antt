-- How far a number's digits are counted.
use Rattle.std.specs.Prelude.{ℕ, ◌-◌, ◌^◌, ◌≤◌, ◌≡◌}
use Rattle.decimal.specs.Writing.{digits_needed_from, digits_needed}

-- v has k digits or more, and `limit`, 10 to the k, is the least number that has more than k.
pub record Counting (v k limit : ℕ) : Type 0 where
  pub same : digits_needed_from (20 - k) limit k v ≡ digits_needed v
  pub power : limit ≡ 10 ^ k
  pub most : k ≤ 19
