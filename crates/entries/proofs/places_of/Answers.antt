-- `entries::places_of` meets its contract. Assumes nothing.
use Rattle.entries.specs.Entries.{places_of}
use Rattle.entries.proofs.places_of.Goals as goal

pub returns : goal.returns
unfolding places_of
returns c =
    rw (
      c.place_of.ensures,
      c.place_of-2.ensures,
      c.place_of-3.ensures,
      c.place_of-4.ensures,
      c.place_of-5.ensures,
      c.place_of-6.ensures,
    )
