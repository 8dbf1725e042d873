-- Division of integers: by a floor, by the nearest quotient, and by 2; quotients that are one only. Assumes nothing.
use mathlib.Core.Path.{◌≡◌, ap, ◌∙◌}
use Prim.Native.Nat.{ℕ, zero, suc, ◌+◌, ◌*◌, ◌-◌, ◌/◌, ◌%◌, ◌<◌, ◌≤◌}
use native.Mathlib.Omega.{arith}
use native.Mathlib.Decide.{dec_le}
use native.Mathlib.Nat.{div-add-mod, mod-lt, lt_of_mul-lt-mul_left}
use lib.Arith.{digits_div}
use lib.IntN.{ℤ, pos, negsuc, neg_ℤ, nat_abs, ◌+ℤ◌, ◌*ℤ◌, +ℤ_idr}
use Rattle.laws.proofs.Integers.{up, dn, parts, diffs, ring, abs, abs_neg}

-- ---- toward minus infinity
pub record Floor (z : ℤ) (m : ℕ) : Type 0 where
  pub quo : ℤ
  pub rem : ℕ
  pub below : rem < m
  pub is : z ≡ pos m *ℤ quo +ℤ pos rem

pub floor : (z : ℤ) (m : ℕ) → 0 < m → Floor z m
floor (pos a) m h =
    record { quo = pos (a / m); rem = a % m; below = mod-lt a h; is = ap pos (omega (arith, div-add-mod a m)) }
floor (negsuc a) m h =
    record {
      quo = negsuc (a / m);
      rem = m - suc (a % m);
      below = omega arith;
      is = simp diffs (omega (ring, div-add-mod a m, mod-lt a h));
    }

-- the remainder of the least absolute value
pub record Near (z : ℤ) (m : ℕ) : Type 0 where
  pub quo : ℤ
  pub rem : ℤ
  pub small : 2 * nat_abs rem ≤ m
  pub is : z ≡ pos m *ℤ quo +ℤ rem

pub near : (z : ℤ) (m : ℕ) → 0 < m → Near z m
near z m h = go (floor z m h)
  where
    pick : (q : ℤ) (r : ℕ) → r < m → z ≡ pos m *ℤ q +ℤ pos r → Dec (2 * r ≤ m) → Near z m
    pick q r l e (yes s) = record { quo = q; rem = pos r; small = s; is = e }
    pick q r l e (no s) =
        record {
          quo = q +ℤ pos 1;
          rem = neg_ℤ (pos (m - r));
          small = rw abs_neg (omega arith);
          is = rw (e, parts q) (simp diffs (omega ring));
        }

    go : Floor z m → Near z m
    go f = pick f.quo f.rem f.below f.is (dec_le (2 * f.rem) m)

-- ---- even and odd
pub data Parity (z : ℤ) : Type 0 where
  is_even : (h : ℤ) → z ≡ pos 2 *ℤ h → Parity z
  is_odd : (h : ℤ) → z ≡ pos 2 *ℤ h +ℤ pos 1 → Parity z

pub parity : (z : ℤ) → Parity z
parity z = go (floor z 2 (omega arith))
  where
    pick : (q : ℤ) (r : ℕ) → r < 2 → z ≡ pos 2 *ℤ q +ℤ pos r → Parity z
    pick q zero l e = is_even q (e ∙ +ℤ_idr (pos 2 *ℤ q))
    pick q (suc zero) l e = is_odd q e
    pick q (suc (suc r)) l e = absurd (omega arith)

    go : Floor z 2 → Parity z
    go f = pick f.quo f.rem f.below f.is

-- ---- one only
-- a quotient by its bounds
pub quotient : (s P q : ℕ) → q * P ≤ s → s < q * P + P → s / P ≡ q
quotient s P q h l = ap (λ t. t / P) (omega arith) ∙ digits_div q {m = P} {r = s - q * P} (omega arith)

-- a quotient by W with a remainder below W / 2
pub same_quo : (W : ℕ) (X X' r r' : ℤ) → pos W *ℤ X +ℤ r ≡ pos W *ℤ X' +ℤ r' → 2 * nat_abs r < W → 2 * nat_abs r' < W → X ≡ X'
same_quo W X X' r r' e h h' =
    let k = simp diffs at (rw (parts X, parts X', parts r, parts r') at e) in
    let l = lt_of_mul-lt-mul_left W {m = up X + dn X'} {n = up X' + dn X + 1} (omega (ring, abs r, abs r')) in
    let l' = lt_of_mul-lt-mul_left W {m = up X' + dn X} {n = up X + dn X' + 1} (omega (ring, abs r, abs r')) in
    rw (parts X, parts X') (omega ring)

-- a quotient by m with a natural remainder below m
pub same_floor : (m : ℕ) (X X' : ℤ) (r r' : ℕ) → pos m *ℤ X +ℤ pos r ≡ pos m *ℤ X' +ℤ pos r' → r < m → r' < m → (X ≡ X') × (r ≡ r')
same_floor m X X' r r' e h h' =
    let k = simp diffs at (rw (parts X, parts X') at e) in
    let l = lt_of_mul-lt-mul_left m {m = up X + dn X'} {n = up X' + dn X + 1} (omega ring) in
    let l' = lt_of_mul-lt-mul_left m {m = up X' + dn X} {n = up X + dn X' + 1} (omega ring) in
    let q : up X + dn X' ≡ up X' + dn X = omega arith in
    let mq : m * (up X + dn X') ≡ m * (up X' + dn X) = ap (λ t. m * t) q in
    (rw (parts X, parts X') (omega ring), omega ring)

pub halve : (X X' : ℤ) → pos 2 *ℤ X ≡ pos 2 *ℤ X' → X ≡ X'
halve X X' e =
    let k = simp diffs at (rw (parts X, parts X') at e) in
    rw (parts X, parts X') (omega ring)
