-- Form 2, wNAF: it is the string of the whole set, so it exists on n + 1 places; it is the only one. Assumes nothing.
use mathlib.Core.Path.{◌≡◌, sym, ◌∙◌}
use mathlib.Core.List.{List}
use Prim.Native.Nat.{ℕ, ◌+◌, ◌^◌, ◌<◌, ◌≤◌}
use native.Mathlib.Omega.{arith}
use lib.IntN.{ℤ}
use Rattle.meaning.specs.Digits.{largest}
use Rattle.meaning.specs.Wnaf.{Wnaf}
use Rattle.forms.specs.Fractional.{fractional_from}
use Rattle.forms.proofs.DigitSets.{all_of}
use Rattle.forms.proofs.Spacing.{apart_same}
use Rattle.forms.proofs.Made.{least_between, fractional_is}
use Rattle.forms.proofs.Whole.{least_is}

-- it exists on n + 1 places
pub wnaf_is : (w N n : ℕ) → 2 ≤ w → N < 2 ^ n → Wnaf w N n (fractional_from w (largest w) (n + 1) N)
wnaf_is w N n two small = (least_is w two N n (fractional_from w (largest w) (n + 1) N)).0 (fractional_is w (largest w) N n (least_between w two) small)

-- two wNAFs of one number on one number of places are one
pub wnaf_same : (w N n : ℕ) → 2 ≤ w → {ds es : List ℤ} → Wnaf w N n ds → Wnaf w N n es → ds ≡ es
wnaf_same w N n two {ds} {es} a b =
    apart_same two (all_of w (omega arith) ds a.is_in_set) (all_of w (omega arith) es b.is_in_set) a.apart b.apart
    (a.length_is ∙ sym b.length_is) (a.worth_is ∙ sym b.worth_is)
