-- Every integer has a nonadjacent form. Assumes nothing.
use mathlib.Core.Path.{◌≡◌, sym, ◌∙◌}
use Prim.Native.Nat.{ℕ, zero, suc, ◌*◌, ◌^◌, ◌<◌, ◌≤◌}
use native.Mathlib.Omega.{arith}
use native.Mathlib.Nat.{le_refl, mul-le-mul_right, lt_of_mul-lt-mul_left}
use lib.Pow.{pow_pos}
use lib.IntN.{ℤ, pos, nat_abs, ◌+ℤ◌, ◌-ℤ◌, ◌*ℤ◌}
use mathlib.Core.Path.{ap}
use Rattle.laws.proofs.Integers.{parts, diffs, ring, abs_mul, abs_block, abs_zero}
use Rattle.laws.proofs.Division.{near, Parity, is_even, is_odd, parity}
use Rattle.laws.proofs.Powers.{pow_four}
use Rattle.forms.proofs.Naf.{odd_small, Digit, Naf, nil, even, odd}

module _ (w Q : ℕ) (four : 2 ^ w ≡ 4 * Q) where
  -- over variables: `rw` could not put 4 * Q for 2 ^ w in a term that holds `near X (2 ^ w) (pow_pos w)`
  rem_digit : (X h q r : ℤ) → X ≡ pos 2 *ℤ h +ℤ pos 1 → X ≡ pos (2 ^ w) *ℤ q +ℤ r → 2 * nat_abs r ≤ 2 ^ w → Digit w r
  rem_digit X h q r e i l =
      let k = simp diffs at (rw (four, parts h, parts q, parts r) at (sym e ∙ i)) in
      let g = h -ℤ pos (2 * Q) *ℤ q in
      let o : r ≡ pos 2 *ℤ g +ℤ pos 1 = rw (parts h, parts q, parts r) (simp diffs (omega ring)) in
      record { half = g; odd = o; small = omega (arith, odd_small r g Q o (omega arith)) }

  quo_less : (n : ℕ) (X q r : ℤ) → nat_abs X ≤ suc n → X ≡ pos (2 ^ w) *ℤ q +ℤ r → 2 * nat_abs r < 2 ^ w → nat_abs q ≤ n
  quo_less n X q r l i s =
      let b = (abs_block (2 ^ w) X q r i).1 in
      let f : 4 ≤ 2 ^ w = omega arith in
      let c = mul-le-mul_right (suc n) f in
      omega (arith, lt_of_mul-lt-mul_left (2 ^ w) {m = nat_abs q} {n = suc n} (omega arith))

  naf_fuel : (n : ℕ) (X : ℤ) → nat_abs X ≤ n → Parity X → (k : ℕ) × Naf w X k
  naf_fuel zero X l P = (0, nil (abs_zero X l))
  naf_fuel (suc n) X l (is_even h e) =
      let (k, N) = naf_fuel n h (omega (arith, ap nat_abs e, abs_mul 2 h)) (parity h) in
      (k, even h e N)
  naf_fuel (suc n) X l (is_odd h e) =
      let m = near X (2 ^ w) (pow_pos w) in
      let D = rem_digit X h m.quo m.rem e m.is m.small in
      let (k, N) = naf_fuel n m.quo (quo_less n X m.quo m.rem l m.is D.small) (parity m.quo) in
      (suc k, odd m.quo m.rem D m.is N)

pub naf : (w : ℕ) → 2 ≤ w → (X : ℤ) → (k : ℕ) × Naf w X k
naf w h X = let (Q, four) = pow_four w h in naf_fuel w Q four (nat_abs X) X (le_refl (nat_abs X)) (parity X)
