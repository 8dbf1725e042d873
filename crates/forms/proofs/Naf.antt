-- The nonadjacent form of width w as a derivation, and strings of w-digits. Assumes nothing.
use mathlib.Core.Path.{◌≡◌, refl}
use mathlib.Core.List.{List, [], ◌∷◌}
use Prim.Native.Nat.{ℕ, zero, suc, ◌+◌, ◌*◌, ◌-◌, ◌^◌, ◌<◌, ◌≤◌}
use native.Mathlib.Omega.{arith}
use lib.IntN.{ℤ, pos, negsuc, nat_abs, ◌+ℤ◌, ◌*ℤ◌}
use Rattle.laws.proofs.Integers.{up, dn, parts, diffs, ring, abs, abs_max}
use Rattle.meaning.specs.Digits.{nonzero}

-- an odd w-digit: below 2 ^ (w - 1), said without a subtraction
pub record Digit (w : ℕ) (d : ℤ) : Type 0 where
  pub half : ℤ
  pub odd : d ≡ pos 2 *ℤ half +ℤ pos 1
  pub small : 2 * nat_abs d < 2 ^ w

-- Y has a nonadjacent form of weight k
pub data Naf (w : ℕ) : ℤ → ℕ → Type 0 where
  nil : {Y : ℤ} → Y ≡ pos 0 → Naf w Y 0
  even : {Y : ℤ} {k : ℕ} (X : ℤ) → Y ≡ pos 2 *ℤ X → Naf w X k → Naf w Y k
  odd : {Y : ℤ} {k : ℕ} (X r : ℤ) → Digit w r → Y ≡ pos (2 ^ w) *ℤ X +ℤ r → Naf w X k → Naf w Y (suc k)

-- an odd number is not the even bound of its absolute value
pub odd_small : (r h : ℤ) (Q : ℕ) → r ≡ pos 2 *ℤ h +ℤ pos 1 → 2 * nat_abs r ≤ 4 * Q → 2 * nat_abs r < 4 * Q
odd_small r h Q e l =
    let k = simp diffs at (rw (parts r, parts h) at e) in
    let l₀ : up r ≤ dn r + 2 * Q = omega (arith, abs r) in
    let l₁ : dn r ≤ up r + 2 * Q = omega (arith, abs r) in
    omega (ring, abs_max r {B = 2 * Q - 1} (omega ring))

-- ---- strings of w-digits
pub data Digits (w : ℕ) : List ℤ → Type 0 where
  none : Digits w []
  gap : {ds : List ℤ} → Digits w ds → Digits w (pos 0 ∷ ds)
  some : {d : ℤ} {ds : List ℤ} → Digit w d → Digits w ds → Digits w (d ∷ ds)

pub nonzero_odd : (d h : ℤ) → d ≡ pos 2 *ℤ h +ℤ pos 1 → nonzero d ≡ 1
unfolding nonzero
nonzero_odd (pos zero) h e = absurd (let k = simp diffs at (rw (parts h) at e) in omega ring)
nonzero_odd (pos (suc n)) h e = refl
nonzero_odd (negsuc n) h e = refl
