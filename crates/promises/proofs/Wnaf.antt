-- wNAF as the document words it, from recode's promise in the set of a whole width: the only string of D_w digits worth the scalar in which any w consecutive places hold at most one nonzero, of any
-- length up to zeros on top; and at an odd remaining number the digit is its signed residue modulo 2 ^ w. Assumes nothing.
use mathlib.Core.Path.{◌≡◌, sym, ap, ◌∙◌}
use mathlib.Core.Logic.{◌≢◌}
use mathlib.Core.List.{List, [], ◌∷◌}
use Prim.Native.Nat.{ℕ, zero, suc, ◌%◌, ◌≤◌}
use native.Mathlib.Omega.{arith}
use lib.Dec.{T}
use lib.IntN.{ℤ, pos, nat_abs, ◌+ℤ◌, ◌*ℤ◌, +ℤ_idl}
use lib.ListN.{get_or, drop}
use Rattle.laws.proofs.Integers.{abs_mul}
use Rattle.meaning.specs.Scalars.{Order, number, bit_count}
use Rattle.meaning.specs.Digits.{largest, all_in, worth, Apart}
use Rattle.meaning.specs.Wnaf as Meaning
use Rattle.meaning.specs.Forms.{Has, asked}
use Rattle.forms.proofs.DigitSets.{all_of}
use Rattle.meaning.specs.Fractional.{SignedResidue}
use Rattle.forms.proofs.Spacing.{apart_residue}
use Rattle.forms.proofs.Forms.{form_whole}
use Rattle.forms.proofs.Only.{apart_only}
use Rattle.scalar.proofs.Bytes.{Bytes}
use Rattle.promises.proofs.Recode as Recoding
use Rattle.promises.proofs.Demand2.{recoded_form}
use Rattle.promises.proofs.EndToEnd.{string, recoded_legal}

-- where what remains is odd, a digit that is not 0 stands
odd_some : (ds : List ℤ) (j : ℕ) → nat_abs (worth (drop j ds)) % 2 ≡ 1 → get_or ds j (pos 0) ≢ pos 0
unfolding worth
odd_some [] zero h e = omega arith
odd_some [] (suc j) h e = omega arith
odd_some (d ∷ ds) zero h e = omega (arith, ap (λ x. nat_abs (x +ℤ pos 2 *ℤ worth ds)) e ∙ ap nat_abs (+ℤ_idl (pos 2 *ℤ worth ds)), abs_mul 2 (worth ds))
odd_some (d ∷ ds) (suc j) h e = odd_some ds j h e

module _ (w : ℕ) {order : Order} {s : List ℕ} {digits₀ : List ℤ} {marks₀ : List ℕ} (o : Recoding.Outcome) (K : Recoding.Keeps 2 w (largest w) order s digits₀ marks₀ o)
    (z : o.tally.refusal ≡ 0) (bytes : Bytes s) where
  abbrev ds : List ℤ
  ds = string 2 w (largest w) o K z bytes

  two : 2 ≤ w
  two = (recoded_legal 2 w (largest w) o K z bytes).pair.between.wide

  form : Meaning.Wnaf w (number order s) (bit_count s) ds
  unfolding asked Has
  form = (form_whole w (number order s) (bit_count s) two 2 ds).0 (recoded_form 2 w (largest w) o K z bytes)

  -- any other such string has the same digit at every place
  pub wnaf_only : (es : List ℤ) → T (all_in (largest w) es) → worth es ≡ pos (number order s) → Apart w es → (j : ℕ) → get_or es j (pos 0) ≡ get_or ds j (pos 0)
  wnaf_only es t e a = apart_only two es ds t form.is_in_set a form.apart (e ∙ sym form.worth_is)

  -- what remains at place j is what the places from j up are worth; where that is odd, the digit is its signed residue
  pub wnaf_residue : (j : ℕ) → nat_abs (worth (drop j ds)) % 2 ≡ 1 → SignedResidue w (worth (drop j ds)) (get_or ds j (pos 0))
  wnaf_residue j h =
      apart_residue two (all_of w (omega (arith, two)) ds form.is_in_set) form.apart j (odd_some ds j h)
