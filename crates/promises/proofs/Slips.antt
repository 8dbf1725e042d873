-- Slips that look right: a form holds of no other string than its own, so not of its neighbour's, and not of one that lost a digit. All of 13 at width 2.
-- Assumes nothing.
use mathlib.Core.Path.{ap}
use mathlib.Core.Logic.{◌≢◌}
use mathlib.Core.List.{List, [], ◌∷◌}
use Prim.Native.Nat.{ℕ, ◌≤◌}
use native.Mathlib.Omega.{arith}
use lib.Count.{count_trailing_zeros}
use lib.Dec.{lit<, lit≤}
use lib.IntN.{ℤ, pos, negsuc, nat_abs}
use lib.ListN.{get_or}
use Rattle.meaning.specs.Digits.{listed}
use Rattle.meaning.specs.Forms.{FormIn}
use Rattle.meaning.specs.Mof.{mof}
use Rattle.meaning.specs.Windows.{window_worth, shrink}
use Rattle.meaning.specs.Wmof.{wmof, wmof_under}
use Rattle.meaning.specs.Sets.{Between}
use Rattle.forms.specs.Fractional.{fractional_digit, fractional_next, fractional_from}
use Rattle.forms.specs.Closest.{closest_of, closest_under}
use Rattle.forms.proofs.Made.{least_between}
use Rattle.forms.proofs.Forms.{form_same}
use Rattle.meaning.specs.Forms.{asked, most_form}
use Rattle.forms.proofs.Forms.{string_of}
use Rattle.promises.proofs.Known.{string_by, string_formed}

-- the set of width 2
least : Between 2 1
least = least_between 2 (lit≤ tt)

-- a string that differs from the form's in the size of a digit
not_it : (f : ℕ) → 1 ≤ f → f ≤ most_form → (ds : List ℤ) (place : ℕ) → nat_abs (get_or ds place (pos 0)) ≢ nat_abs (get_or (string_by f 2 1 13 8) place (pos 0)) → FormIn f 2 1 13 8 ds → ⊥
not_it f l m ds place n F = n (ap (λ x. nat_abs (get_or x place (pos 0))) (form_same 2 1 13 8 least f ds (string_by f 2 1 13 8) F (string_formed f 2 1 13 8 least (lit< tt) l m)))

-- 1 0 -1 0 1 is wNAF's and the closest form's, and not MOF's
pub mof_not_wnaf : FormIn 1 2 1 13 8 (pos 1 ∷ pos 0 ∷ negsuc 0 ∷ pos 0 ∷ pos 1 ∷ pos 0 ∷ pos 0 ∷ pos 0 ∷ pos 0 ∷ []) → ⊥
unfolding asked string_of mof listed
mof_not_wnaf = not_it 1 (lit≤ tt) (lit≤ tt) _ 1 (λ e. omega arith)

-- 1 0 0 -1 -1 is wMOF's: two nonzeros stand side by side
pub wnaf_not_wmof : FormIn 2 2 1 13 8 (negsuc 0 ∷ negsuc 0 ∷ pos 0 ∷ pos 0 ∷ pos 1 ∷ pos 0 ∷ pos 0 ∷ pos 0 ∷ pos 0 ∷ []) → ⊥
unfolding asked string_of fractional_from fractional_digit fractional_next
wnaf_not_wmof = not_it 2 (lit≤ tt) (lit≤ tt) _ 1 (λ e. omega arith)

-- it is not the closest form's either: they differ by the tie at -3
pub closest_not_wmof : FormIn 4 2 1 13 8 (negsuc 0 ∷ negsuc 0 ∷ pos 0 ∷ pos 0 ∷ pos 1 ∷ pos 0 ∷ pos 0 ∷ pos 0 ∷ pos 0 ∷ []) → ⊥
unfolding asked string_of closest_of closest_under window_worth shrink count_trailing_zeros
closest_not_wmof = not_it 4 (lit≤ tt) (lit≤ tt) _ 1 (λ e. omega arith)

-- nor are the two tie rules one: with the smaller candidate 13 is not 1 0 -1 0 1
pub smaller_not_larger : FormIn 5 2 1 13 8 (pos 1 ∷ pos 0 ∷ negsuc 0 ∷ pos 0 ∷ pos 1 ∷ pos 0 ∷ pos 0 ∷ pos 0 ∷ pos 0 ∷ []) → ⊥
unfolding asked string_of closest_of closest_under window_worth shrink count_trailing_zeros
smaller_not_larger = not_it 5 (lit≤ tt) (lit≤ tt) _ 1 (λ e. omega arith)

-- stopping at the last full window loses the final -1
pub wmof_not_cut : FormIn 3 2 1 13 8 (pos 0 ∷ negsuc 0 ∷ pos 0 ∷ pos 0 ∷ pos 1 ∷ pos 0 ∷ pos 0 ∷ pos 0 ∷ pos 0 ∷ []) → ⊥
unfolding asked string_of wmof wmof_under window_worth shrink count_trailing_zeros
wmof_not_cut = not_it 3 (lit≤ tt) (lit≤ tt) _ 0 (λ e. omega arith)
