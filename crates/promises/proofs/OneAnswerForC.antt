-- The statements of the library for C are complete, as those of `OneAnswer`: two answers that satisfy what a function's contract ensures, to the same
-- input, are the same. Assumes nothing.
use mathlib.Core.Path.{◌≡◌, sym, ◌∙◌}
use contract.Lifetimes.{Lfts}
use denote.Triple.Clauses.{AtExit}
use borrow.Fn.Kinds.{Dens, res_t, ended_of}
use Rattle.capi.proofs.bannerscale_check.Kinds as check-kinds
use Rattle.capi.proofs.bannerscale_check.Reads as check-reads
use Rattle.capi.proofs.bannerscale_geographic_to_plane.Kinds as plane-kinds
use Rattle.capi.proofs.bannerscale_geographic_to_plane.Reads as plane-reads
use Rattle.capi.proofs.bannerscale_plane_to_geographic.Kinds as geographic-kinds
use Rattle.capi.proofs.bannerscale_plane_to_geographic.Reads as geographic-reads
use Rattle.capi.proofs.bannerscale_convergence_and_scale.Kinds as grid-kinds
use Rattle.capi.proofs.bannerscale_convergence_and_scale.Reads as grid-reads
use Rattle.capi.proofs.bannerscale_geographic_touched.Kinds as geographic-touch-kinds
use Rattle.capi.proofs.bannerscale_geographic_touched.Reads as geographic-touch-reads
use Rattle.capi.proofs.bannerscale_plane_touched.Kinds as plane-touch-kinds
use Rattle.capi.proofs.bannerscale_plane_touched.Reads as plane-touch-reads
use Rattle.capi.proofs.bannerscale_door_geographic_to_plane.Kinds as door-plane-kinds
use Rattle.capi.proofs.bannerscale_door_geographic_to_plane.Reads as door-plane-reads
use Rattle.capi.proofs.bannerscale_door_plane_to_geographic.Kinds as door-geographic-kinds
use Rattle.capi.proofs.bannerscale_door_plane_to_geographic.Reads as door-geographic-reads
use Rattle.capi.proofs.bannerscale_door_convergence_and_scale.Kinds as door-grid-kinds
use Rattle.capi.proofs.bannerscale_door_convergence_and_scale.Reads as door-grid-reads
use Rattle.capi.proofs.bannerscale_feet.Kinds as feet-kinds
use Rattle.capi.proofs.bannerscale_feet.Reads as feet-reads
use Rattle.capi.proofs.bannerscale_correct.Kinds as correct-kinds
use Rattle.capi.proofs.bannerscale_correct.Reads as correct-reads
use Rattle.capi.proofs.bannerscale_batch.Kinds as batch-kinds
use Rattle.capi.proofs.bannerscale_batch.Reads as batch-reads

-- `capi::bannerscale_check`
pub one_check : (κs : Lfts 1) (given : Dens κs check-kinds.ps) (r t : (res_t check-kinds.r κs).Denot) (x y : AtExit (ended_of 1 check-kinds.ps check-kinds.r) κs)
    → check-reads.Learnt κs given r x → check-reads.Learnt κs given t y → r ≡ t
one_check κs given r t x y p q = p ∙ sym q

-- `capi::bannerscale_geographic_to_plane`
pub one-plane : (κs : Lfts 1) (given : Dens κs plane-kinds.ps) (r t : (res_t plane-kinds.r κs).Denot) (x y : AtExit (ended_of 1 plane-kinds.ps plane-kinds.r) κs)
    → plane-reads.Learnt κs given r x → plane-reads.Learnt κs given t y → r ≡ t
one-plane κs given r t x y p q = p ∙ sym q

-- `capi::bannerscale_plane_to_geographic`
pub one-geographic : (κs : Lfts 1) (given : Dens κs geographic-kinds.ps) (r t : (res_t geographic-kinds.r κs).Denot) (x y : AtExit (ended_of 1 geographic-kinds.ps geographic-kinds.r) κs)
    → geographic-reads.Learnt κs given r x → geographic-reads.Learnt κs given t y → r ≡ t
one-geographic κs given r t x y p q = p ∙ sym q

-- `capi::bannerscale_convergence_and_scale`
pub one-grid : (κs : Lfts 1) (given : Dens κs grid-kinds.ps) (r t : (res_t grid-kinds.r κs).Denot) (x y : AtExit (ended_of 1 grid-kinds.ps grid-kinds.r) κs)
    → grid-reads.Learnt κs given r x → grid-reads.Learnt κs given t y → r ≡ t
one-grid κs given r t x y p q = p ∙ sym q

-- `capi::bannerscale_geographic_touched`
pub one-geographic-touch : (κs : Lfts 1) (given : Dens κs geographic-touch-kinds.ps) (r t : (res_t geographic-touch-kinds.r κs).Denot) (x y : AtExit (ended_of 1 geographic-touch-kinds.ps geographic-touch-kinds.r) κs)
    → geographic-touch-reads.Learnt κs given r x → geographic-touch-reads.Learnt κs given t y → r ≡ t
one-geographic-touch κs given r t x y p q = p ∙ sym q

-- `capi::bannerscale_plane_touched`
pub one-plane-touch : (κs : Lfts 1) (given : Dens κs plane-touch-kinds.ps) (r t : (res_t plane-touch-kinds.r κs).Denot) (x y : AtExit (ended_of 1 plane-touch-kinds.ps plane-touch-kinds.r) κs)
    → plane-touch-reads.Learnt κs given r x → plane-touch-reads.Learnt κs given t y → r ≡ t
one-plane-touch κs given r t x y p q = p ∙ sym q

-- `capi::bannerscale_door_geographic_to_plane`
pub one_door_plane : (κs : Lfts 1) (given : Dens κs door-plane-kinds.ps) (r t : (res_t door-plane-kinds.r κs).Denot) (x y : AtExit (ended_of 1 door-plane-kinds.ps door-plane-kinds.r) κs)
    → door-plane-reads.Learnt κs given r x → door-plane-reads.Learnt κs given t y → r ≡ t
one_door_plane κs given r t x y p q = p ∙ sym q

-- `capi::bannerscale_door_plane_to_geographic`
pub one_door_geographic : (κs : Lfts 1) (given : Dens κs door-geographic-kinds.ps) (r t : (res_t door-geographic-kinds.r κs).Denot) (x y : AtExit (ended_of 1 door-geographic-kinds.ps door-geographic-kinds.r) κs)
    → door-geographic-reads.Learnt κs given r x → door-geographic-reads.Learnt κs given t y → r ≡ t
one_door_geographic κs given r t x y p q = p ∙ sym q

-- `capi::bannerscale_door_convergence_and_scale`
pub one_door_grid : (κs : Lfts 1) (given : Dens κs door-grid-kinds.ps) (r t : (res_t door-grid-kinds.r κs).Denot) (x y : AtExit (ended_of 1 door-grid-kinds.ps door-grid-kinds.r) κs)
    → door-grid-reads.Learnt κs given r x → door-grid-reads.Learnt κs given t y → r ≡ t
one_door_grid κs given r t x y p q = p ∙ sym q

-- `capi::bannerscale_feet`
pub one_feet : (κs : Lfts 0) (given : Dens κs feet-kinds.ps) (r t : (res_t feet-kinds.r κs).Denot) (x y : AtExit (ended_of 0 feet-kinds.ps feet-kinds.r) κs)
    → feet-reads.Learnt κs given r x → feet-reads.Learnt κs given t y → r ≡ t
one_feet κs given r t x y p q = p ∙ sym q

-- `capi::bannerscale_correct`: one number, and one content of the lent sheet
pub one_correct : (κs : Lfts 1) (given : Dens κs correct-kinds.ps) (r t : (res_t correct-kinds.r κs).Denot) (x y : AtExit (ended_of 1 correct-kinds.ps correct-kinds.r) κs)
    → correct-reads.Learnt κs given r x → correct-reads.Learnt κs given t y → (r ≡ t) × (x.0.now ≡ y.0.now)
one_correct κs given r t x y p q = (p.0 ∙ sym q.0, p.1 ∙ sym q.1)

-- `capi::bannerscale_batch`: one number and count, and one content of the answers' memory
pub one_batch : (κs : Lfts 3) (given : Dens κs batch-kinds.ps) (r t : (res_t batch-kinds.r κs).Denot) (x y : AtExit (ended_of 3 batch-kinds.ps batch-kinds.r) κs)
    → batch-reads.Learnt κs given r x → batch-reads.Learnt κs given t y → (r ≡ t) × (x.1.1.0.now ≡ y.1.1.0.now)
one_batch κs given r t x y p q = (p.0 ∙ sym q.0, p.1 ∙ sym q.1)
