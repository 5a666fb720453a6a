-- A sheet known to pass: its contents have no fault, and each kind's place is its own. Assumes nothing.
use mathlib.Core.Path.{◌≡◌, ap}
use mathlib.Core.List.{List}
use Prim.Native.Nat.{ℕ, ◌≤◌}
use lib.Dec.{lit≤}
use lib.ListN.{length}
use Rattle.entries.specs.declared.Places.{Places}
use Rattle.entries.specs.Layout.{least_bytes, zone, latitude, longitude, northing, easting, scale}
use Rattle.entries.specs.Entries.{form_of, places_of}
use Rattle.contents.specs.Contents.{number_of, contents_of, Placed}
use Rattle.contents.proofs.Passing.{passed}
use Rattle.sheet_check.specs.Check.{check_of, KnownToPass}
use Rattle.sheet_check.proofs.Sound.{passes_sound}

-- a sheet that passes has contents that pass
pub contents-none : (s : List ℕ) → (check_of s).number ≡ 0 → (contents_of s).number ≡ 0
contents-none s z = ap number_of (passes_sound s z).contents

-- so it is as long as its contents
pub sheet_long : (s : List ℕ) → (check_of s).number ≡ 0 → least_bytes (form_of s) ≤ length s
sheet_long s z = (passed s (contents-none s z)).long

module _ (s : List ℕ) (p : Places) (known : KnownToPass s p) where
  pub zone-placed : Placed s zone p.zone
  unfolding places_of
  zone-placed = record { contents = contents-none s known.passes; place = ap (λ (q : Places). q.zone) known.places; least = lit≤ tt; most = lit≤ tt }

  pub latitude-placed : Placed s latitude p.latitude
  unfolding places_of
  latitude-placed = record { contents = contents-none s known.passes; place = ap (λ (q : Places). q.latitude) known.places; least = lit≤ tt; most = lit≤ tt }

  pub longitude-placed : Placed s longitude p.longitude
  unfolding places_of
  longitude-placed = record { contents = contents-none s known.passes; place = ap (λ (q : Places). q.longitude) known.places; least = lit≤ tt; most = lit≤ tt }

  pub northing-placed : Placed s northing p.northing
  unfolding places_of
  northing-placed = record { contents = contents-none s known.passes; place = ap (λ (q : Places). q.northing) known.places; least = lit≤ tt; most = lit≤ tt }

  pub easting-placed : Placed s easting p.easting
  unfolding places_of
  easting-placed = record { contents = contents-none s known.passes; place = ap (λ (q : Places). q.easting) known.places; least = lit≤ tt; most = lit≤ tt }

  pub scale-placed : Placed s scale p.scale
  unfolding places_of
  scale-placed = record { contents = contents-none s known.passes; place = ap (λ (q : Places). q.scale) known.places; least = lit≤ tt; most = lit≤ tt }
