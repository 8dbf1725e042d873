-- The two ends of the sets of a width: with the largest digit of D_w the string is the wNAF of width w, and with the largest of D_(w+1) that of width w + 1.
-- Assumes nothing.
use mathlib.Core.Path.{◌≡◌, refl, ap}
use mathlib.Core.Logic.{◌↔◌}
use mathlib.Core.List.{List, ◌∷◌}
use Prim.Native.Nat.{ℕ, ◌+◌, ◌-◌, ◌^◌, ◌≤◌}
use native.Mathlib.Omega.{arith}
use lib.IntN.{ℤ, pos, ◌+ℤ◌, ◌*ℤ◌}
use Rattle.laws.proofs.Integers.{parts, diffs, ring}
use Rattle.meaning.specs.Digits.{largest, worth, Apart}
use Rattle.meaning.specs.Wnaf.{Wnaf}
use Rattle.forms.proofs.Naf.{Digits, none, gap, some}
use Rattle.forms.proofs.DigitSets.{all_of, digit_some}
use Rattle.forms.proofs.Spacing.{apart_tail, apart_residue}
use Rattle.meaning.specs.Sets.{Between}
use Rattle.meaning.specs.Fractional.{small, large, ByResidues, done, even, odd, Fractional}
use Rattle.forms.proofs.Made.{halves, least_between, most_between}
use Rattle.forms.proofs.Fractional.{Multiple, Takes, least_takes, residues_worth, residues_digits, residues_spaced, residues_apart}

-- ---- either way, where the rule always takes the signed residue modulo 2 ^ v
-- a string of v-digits at least v places apart is made by the rule
by_rule : {w m v : ℕ} → 2 ≤ v → Takes w m v → {ds : List ℤ} → Digits v ds → Apart v ds → ByResidues w m (worth ds) ds
unfolding worth
by_rule two f none a = done refl
by_rule two f (gap {ds} s) a = even (worth ds) (zero (worth ds)) (by_rule two f s (apart_tail a))
  where
    zero : (X : ℤ) → pos 0 +ℤ pos 2 *ℤ X ≡ pos 2 *ℤ X
    zero X = rw (parts X) (simp diffs (omega ring))
by_rule two f (some {d} {ds} D s) a =
    let o = law D.half (worth ds) D.odd in
    let r = apart_residue two (some D s) a 0 (digit_some D) in
    odd (D.half +ℤ worth ds) (worth ds) o (f (worth (d ∷ ds)) (D.half +ℤ worth ds) d o r) refl (by_rule two f s (apart_tail a))
  where
    law : (h X : ℤ) → d ≡ pos 2 *ℤ h +ℤ pos 1 → d +ℤ pos 2 *ℤ X ≡ pos 2 *ℤ (h +ℤ X) +ℤ pos 1
    law h X e = rw (e, parts h, parts X) (simp diffs (omega ring))

wnaf_fractional : (w m v N n : ℕ) → 2 ≤ v → Takes w m v → {ds : List ℤ} → Wnaf v N n ds → Fractional w m N n ds
wnaf_fractional w m v N n two f {ds} a =
    record { length_is = a.length_is; by_residues = rw a.worth_is at (by_rule two f (all_of v (omega arith) ds a.is_in_set) a.apart) }

fractional_wnaf : (w m v N n : ℕ) → Between w m → m ≡ largest v → {ds : List ℤ} → Apart v ds → Fractional w m N n ds → Wnaf v N n ds
fractional_wnaf w m v N n set e {ds} s a =
    record { length_is = a.length_is; is_in_set = rw (← e) (residues_digits w m set a.by_residues); worth_is = residues_worth a.by_residues; apart = s }

-- ---- the two ends
module _ (w : ℕ) (two : 2 ≤ w) where
  -- the least
  pub least_is : (N n : ℕ) (ds : List ℤ) → Fractional w (largest w) N n ds ↔ Wnaf w N n ds
  least_is N n ds = (
    λ a. fractional_wnaf w (largest w) w N n (least_between w two) refl (residues_apart w (largest w) (least_between w two) a.by_residues) a,
    λ a. wnaf_fractional w (largest w) w N n two (least_takes w two) a,
  )

  -- the most: every residue modulo 2 ^ (w + 1) is taken
  most_takes : Takes w (2 ^ w - 1) (w + 1)
  most_takes R h d o a = small a (omega (arith, a.between, (halves w two)))

  most_multiple : Multiple w (2 ^ w - 1) (w + 1)
  most_multiple R d (small a l) = (a.quotient, a.is)
  most_multiple R d (large r a l b) = absurd (omega (arith, a.between, (halves w two)))

  pub most_is : (N n : ℕ) (ds : List ℤ) → Fractional w (2 ^ w - 1) N n ds ↔ Wnaf (w + 1) N n ds
  most_is N n ds =
      let m = 2 ^ w - 1 in
      let k : w ≡ w + 1 - 1 = omega arith in (
        λ a. fractional_wnaf w m (w + 1) N n (most_between w two) (ap (λ t. 2 ^ t - 1) k) (residues_spaced (w + 1) (omega arith) most_multiple a.by_residues) a,
        λ a. wnaf_fractional w m (w + 1) N n (omega arith) most_takes a,
      )
