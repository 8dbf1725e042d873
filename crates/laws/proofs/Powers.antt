-- Powers of two: halves and quarters of them, trailing zeros, and a number that lies under one. Assumes nothing.
use mathlib.Core.Path.{◌≡◌, refl, sym, ap, ◌∙◌}
use Prim.Native.Nat.{ℕ, zero, suc, ◌+◌, ◌*◌, ◌-◌, ◌/◌, ◌%◌, ◌^◌, ◌<◌, ◌≤◌}
use native.Mathlib.Omega.{arith}
use native.Mathlib.Nat.{pow-succ', div-eq_of_eq-mul_right}
use lib.Pow.{pow_pos, pow-add}
use lib.Count.{count_trailing_zeros, under}
use lib.IntN.{ℤ, pos, ◌*ℤ◌}
use Rattle.laws.proofs.Integers.{parts, diffs, ring}

pub pow_pred : (w : ℕ) → 1 ≤ w → 2 ^ w ≡ 2 * 2 ^ (w - 1)
pow_pred w h = ap (λ t. 2 ^ t) (omega arith) ∙ pow-succ' 2 (w - 1)

pub pow_next : (w : ℕ) → 2 ^ (w + 1) ≡ 2 * 2 ^ w
pow_next w = ap (λ t. 2 ^ t) (omega arith) ∙ pow-succ' 2 w

pub pow_four : (w : ℕ) → 2 ≤ w → (Q : ℕ) × (2 ^ w ≡ 4 * Q)
pow_four zero h = absurd (omega arith)
pow_four (suc zero) h = absurd (omega arith)
pow_four (suc (suc k)) h = (2 ^ k, omega arith)

-- 2 ^ (p + q) · u = 2 ^ p · (2 ^ q · u)
pub pow_times : (p q : ℕ) (u : ℤ) → pos (2 ^ (p + q)) *ℤ u ≡ pos (2 ^ p) *ℤ (pos (2 ^ q) *ℤ u)
pow_times p q u = rw (pow-add 2 p q) (law (2 ^ p) (2 ^ q))
  where
    law : (P Q : ℕ) → pos (P * Q) *ℤ u ≡ pos P *ℤ (pos Q *ℤ u)
    law P Q = rw (parts u) (simp diffs (omega ring))

-- a number lies under its own power
pub under_power : (n : ℕ) → n < 2 ^ n
under_power zero = omega arith
under_power (suc n) = omega (arith, under_power n, pow-succ' 2 n)

-- a = 2 ^ k · o, o odd, k the trailing zeros of a
pub trailing : (d a : ℕ) → 0 < a → a < 2 ^ d → (o : ℕ) × (a ≡ 2 ^ count_trailing_zeros d a * o) × (o % 2 ≡ 1) × (count_trailing_zeros d a < d)
unfolding count_trailing_zeros
trailing zero a h l = absurd (omega arith)
trailing (suc d) a h l = go (a % 2) refl (λ e. trailing d (a / 2) (omega arith) (omega (arith, pow-succ' 2 d)))
  where
    t : ℕ
    t = count_trailing_zeros d (a / 2)

    go : (r : ℕ) → a % 2 ≡ r → (a % 2 ≡ 0 → (o : ℕ) × (a / 2 ≡ 2 ^ t * o) × (o % 2 ≡ 1) × (t < d)) → (o : ℕ) × (a ≡ 2 ^ under r t * o) × (o % 2 ≡ 1) × (under r t < suc d)
    go zero e f = let (o, p, q, s) = f e in (o, omega (arith, ap (λ x. x * o) (pow-succ' 2 t)), q, omega arith)
    go (suc r) e f = (a, omega arith, omega arith, omega arith)

-- they do not depend on how many bits are looked at, if the number lies under them
pub trailing_any : (d e a : ℕ) → 0 < a → a < 2 ^ d → a < 2 ^ e → count_trailing_zeros d a ≡ count_trailing_zeros e a
unfolding count_trailing_zeros
trailing_any zero e a h l m = absurd (omega arith)
trailing_any (suc d) zero a h l m = absurd (omega arith)
trailing_any (suc d) (suc e) a h l m =
    go (a % 2) refl (λ z. trailing_any d e (a / 2) (omega arith) (omega (arith, pow-succ' 2 d)) (omega (arith, pow-succ' 2 e)))
  where
    go : (r : ℕ) → a % 2 ≡ r → (a % 2 ≡ 0 → count_trailing_zeros d (a / 2) ≡ count_trailing_zeros e (a / 2)) → under r (count_trailing_zeros d (a / 2)) ≡ under r (count_trailing_zeros e (a / 2))
    go zero z f = ap suc (f z)
    go (suc r) z f = refl

-- the odd number as code has it, a shifted down
pub odd_part_is : (d a : ℕ) → 0 < a → a < 2 ^ d → (a ≡ 2 ^ count_trailing_zeros d a * (a / 2 ^ count_trailing_zeros d a)) × (a / 2 ^ count_trailing_zeros d a % 2 ≡ 1) × (count_trailing_zeros d a < d)
odd_part_is d a h l =
    let (o, p, q, s) = trailing d a h l in
    let e : a / 2 ^ count_trailing_zeros d a ≡ o = div-eq_of_eq-mul_right (pow_pos (count_trailing_zeros d a)) p in
    (p ∙ ap (λ x. 2 ^ count_trailing_zeros d a * x) (sym e), ap (λ x. x % 2) e ∙ q, s)
