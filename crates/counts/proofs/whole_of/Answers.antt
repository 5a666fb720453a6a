-- `counts::whole_of` meets its contract: each way out is a law of `Pattern` at what the code's tests say of the bits; then what each step asks. Assumes nothing.
use mathlib.Core.Path.{sym, ◌∙◌, subst}
use lib.Dec.{T}
use lib.Ieee.{Float, binary64, fits}
use Rattle.counts.proofs.Pattern.{is_nan_lem, is_zero, is_small, is_large, unit_pos, size_lt, is_fraction, is_plus, minus_fits, is_minus}
use Rattle.counts.proofs.whole_of.Goals as goal
use Rattle.counts.proofs.whole_of.Goals.{Else-exponent-gt-OF_MOST, Start}

abbrev x : Start → Float
x c = c.args.x

-- what owning an `f64` tells: the format holds it
held : (c : Start) → T (fits binary64 (x c))
held c = subst T (sym c.well_formed.0.1) tt

pub returns-then-is_nan : goal.returns-then-is_nan
returns-then-is_nan c = is_nan_lem c.args.x (sym c.is_nan.ensures.value ∙ c.if-is_nan.true)

pub returns-then-bits-eq0 : goal.returns-then-bits-eq0
returns-then-bits-eq0 c =
    let s = (goal.at.returns-then-bits-eq0 c).Start in
    is_zero (x s) (held (goal.at.returns-then-bits-eq0 c).Start) c.if-bits-eq0.true

pub returns-then-exponent-lt-OF_ONE : goal.returns-then-exponent-lt-OF_ONE
returns-then-exponent-lt-OF_ONE c =
    let s = (goal.at.returns-then-exponent-lt-OF_ONE c).Start in
    is_small (x s) (held (goal.at.returns-then-exponent-lt-OF_ONE c).Start) c.if-exponent-lt-OF_ONE.true c.if-bits-eq0.false

pub returns-then-exponent-gt-OF_MOST : goal.returns-then-exponent-gt-OF_MOST
returns-then-exponent-gt-OF_MOST c =
    let s = (goal.at.returns-then-exponent-gt-OF_MOST c).Start in
    is_large (x s) (held (goal.at.returns-then-exponent-gt-OF_MOST c).Start) c.if-exponent-gt-OF_MOST.true

pub returns-then-digits-unit-ne0 : goal.returns-then-digits-unit-ne0
returns-then-digits-unit-ne0 c =
    let s = (goal.at.returns-then-digits-unit-ne0 c).Start in
    is_fraction (x s) (held (goal.at.returns-then-digits-unit-ne0 c).Start) c.if-exponent-lt-OF_ONE.false c.if-exponent-gt-OF_MOST.false c.if-digits-unit-ne0.true

pub returns-then-bits-lt-SIGN : goal.returns-then-bits-lt-SIGN
returns-then-bits-lt-SIGN c =
    let s = (goal.at.returns-then-bits-lt-SIGN c).Start in
    is_plus (x s) (held (goal.at.returns-then-bits-lt-SIGN c).Start) c.if-exponent-lt-OF_ONE.false c.if-exponent-gt-OF_MOST.false c.if-digits-unit-ne0.false c.if-bits-lt-SIGN.true

pub returns : goal.returns
returns c =
    let s = (goal.at.returns c).Start in
    is_minus (x s) (held (goal.at.returns c).Start) c.if-exponent-lt-OF_ONE.false c.if-exponent-gt-OF_MOST.false c.if-digits-unit-ne0.false c.if-bits-lt-SIGN.false

pub nonzero_rem-digits-2 : goal.nonzero_rem-digits-2
nonzero_rem-digits-2 c =
    let s = (goal.at.nonzero_rem-digits-2 c).Start in
    unit_pos (x s) (held (goal.at.nonzero_rem-digits-2 c).Start) c.if-exponent-lt-OF_ONE.false c.if-exponent-gt-OF_MOST.false

pub nonzero_div-size : goal.nonzero_div-size
nonzero_div-size c = nonzero_rem-digits-2 (goal.at.nonzero_div-size c).Else-exponent-gt-OF_MOST

pub overflow_cast-size : goal.overflow_cast-size
overflow_cast-size c =
    let s = (goal.at.overflow_cast-size c).Start in
    record { sfits = size_lt (x s) (held (goal.at.overflow_cast-size c).Start) c.if-exponent-lt-OF_ONE.false c.if-exponent-gt-OF_MOST.false }

pub overflow_sub-result : goal.overflow_sub-result
overflow_sub-result c =
    let s = (goal.at.overflow_sub-result c).Start in
    minus_fits (x s) (held (goal.at.overflow_sub-result c).Start) c.if-exponent-lt-OF_ONE.false c.if-exponent-gt-OF_MOST.false
