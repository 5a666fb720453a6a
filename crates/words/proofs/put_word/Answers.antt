-- `words::put_word` meets its contract. Assumes nothing.
use mathlib.Core.Path.{◌≡◌, sym, ap, ◌∙◌}
use Prim.Native.Nat.{◌+◌, ◌*◌, ◌-◌}
use borrow.Rule.Slice.PartMut.{put_mid}
use mir.Facts.{to_z-of_z}
use mir.Syntax.{w32}
use mir.Val.{to_z, of_z}
use Rattle.std.specs.Int.{cast_unsigned, to_be_bytes}
use Rattle.words.specs.Words.{bits32, put_word}
use Rattle.words.proofs.TwosComplement.{bits32_is, bits32-small}
use Rattle.words.proofs.Writing.{bytes_put}
use Rattle.words.proofs.put_word.Goals as goal

pub returns : goal.returns
unfolding put_word
returns c =
    let v = c.args.v in
    let a = 4 * c.args.i in
    let bits : cast_unsigned w32 (to_z w32 (of_z w32 v)) ≡ bits32 v = ap (of_z w32) (to_z-of_z c.ranges.v) ∙ sym (bits32_is v) in
    let bytes : c.copy_from_slice.new.self ≡ to_be_bytes w32 (bits32 v) = c.copy_from_slice.ensures.after ∙ c.to_be_bytes.ensures ∙ ap (to_be_bytes w32) bits in
    ap (put_mid a (a + 4 - a) c.args.s.now) bytes ∙ bytes_put c.args.s.now c.args.i (bits32 v) c.requires (bits32-small v c.ranges.v)
