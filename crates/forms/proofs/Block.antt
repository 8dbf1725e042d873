-- An integer v ≢ 0 as u · 2 ^ k with u odd, and the place where u goes when a block worth v is taken off. Assumes nothing.
use mathlib.Core.Path.{◌≡◌, sym, ap, ◌∙◌}
use Prim.Native.Nat.{ℕ, suc, ◌+◌, ◌*◌, ◌-◌, ◌%◌, ◌^◌, ◌<◌, ◌≤◌}
use native.Mathlib.Omega.{arith}
use native.Mathlib.Decide.{dec_le}
use native.Mathlib.Nat.{pow-succ', mul-le-mul_left, mul-le-mul_right, div-eq_of_eq-mul_right}
use lib.Pow.{pow_pos, pow-add}
use lib.Count.{count_trailing_zeros}
use lib.IntN.{ℤ, pos, negsuc, neg_ℤ, nat_abs, ◌+ℤ◌, ◌-ℤ◌, ◌*ℤ◌}
use Rattle.laws.proofs.Integers.{up, dn, parts, diffs, ring, abs_mul, abs_neg, minus, cancel}
use Rattle.laws.proofs.Division.{Parity, is_even, is_odd, parity}
use Rattle.laws.proofs.Powers.{pow_four, trailing}
use Rattle.meaning.specs.Windows.{twos, shrink, odd_part}
use Rattle.forms.proofs.Naf.{Digit, odd_small}

-- v = 2 ^ k · u, u an odd digit
pub record Block (w : ℕ) (v : ℤ) (k : ℕ) (u : ℤ) : Type 0 where
  pub is : v ≡ pos (2 ^ k) *ℤ u
  pub digit : Digit w u
  pub low : 2 ^ k ≤ nat_abs v

-- an odd u with 2 · |v| ≤ 2 ^ w is a digit
block : (w : ℕ) → 2 ≤ w → (v : ℤ) (k : ℕ) (u : ℤ) → v ≡ pos (2 ^ k) *ℤ u → nat_abs u % 2 ≡ 1 → 2 * nat_abs v ≤ 2 ^ w → Block w v k u
block w two v k u e o l = record { is = e; digit = go (parity u); low = omega (arith, size, mul-le-mul_left {m = 1} {n = nat_abs u} (2 ^ k) (omega arith)) }
  where
    size : nat_abs v ≡ 2 ^ k * nat_abs u
    size = ap nat_abs e ∙ abs_mul (2 ^ k) u

    go : Parity u → Digit w u
    go (is_even g q) = absurd (omega (arith, ap nat_abs q, abs_mul 2 g))
    go (is_odd g q) =
        let (Q, four) = pow_four w two in
        record { half = g; odd = q; small = omega (arith, odd_small u g Q q (omega (arith, size, mul-le-mul_right (nat_abs u) (pow_pos k)))) }

-- the one that `twos` and `unit` compute
pub unit_block : (w : ℕ) → 2 ≤ w → (v : ℤ) → 0 < nat_abs v → 2 * nat_abs v ≤ 2 ^ w → Block w v (twos w v) (odd_part w v)
unfolding shrink
unit_block w two (pos a) h l = go (trailing w a h (omega arith))
  where
    go : (o : ℕ) × (a ≡ 2 ^ count_trailing_zeros w a * o) × (o % 2 ≡ 1) × (count_trailing_zeros w a < w) → Block w (pos a) (twos w (pos a)) (odd_part w (pos a))
    go (o, p, q, s) = rw (div-eq_of_eq-mul_right (pow_pos (count_trailing_zeros w a)) p) (block w two (pos a) (count_trailing_zeros w a) (pos o) (ap pos p) q l)
unit_block w two (negsuc a) h l = go (trailing w (suc a) h (omega arith))
  where
    go : (o : ℕ) × (suc a ≡ 2 ^ count_trailing_zeros w (suc a) * o) × (o % 2 ≡ 1) × (count_trailing_zeros w (suc a) < w) → Block w (negsuc a) (twos w (negsuc a)) (odd_part w (negsuc a))
    go (o, p, q, s) =
        rw (div-eq_of_eq-mul_right (pow_pos (count_trailing_zeros w (suc a))) p)
        (block w two (negsuc a) (count_trailing_zeros w (suc a)) (neg_ℤ (pos o)) (rw (minus o) (simp diffs (omega ring))) (omega (arith, abs_neg o)) l)

-- the digit of a block worth v in units of place m - w stands at a place that is there
pub place : (w m k : ℕ) (R v ρ u : ℤ) → pos (2 ^ w) *ℤ R ≡ pos (2 ^ m) *ℤ v +ℤ pos (2 ^ w) *ℤ ρ → Block w v k u → (w ≤ m + k) × (R ≡ pos (2 ^ (m + k - w)) *ℤ u +ℤ ρ)
place w m k R v ρ u e B = go (dec_le w (m + k))
  where
    up_block : (M K W P : ℕ) → M * K ≡ W * P → pos M *ℤ (pos K *ℤ u) +ℤ pos W *ℤ ρ ≡ pos W *ℤ (pos P *ℤ u +ℤ ρ)
    up_block M K W P h = rw (parts u, parts ρ) (simp diffs (omega (ring, ap (λ t. t * up u) h, ap (λ t. t * dn u) h)))

    even_unit : (M K W J : ℕ) → 0 < M * K → W ≡ M * K * (2 * J) → pos W *ℤ R ≡ pos M *ℤ (pos K *ℤ u) +ℤ pos W *ℤ ρ → u ≡ pos 2 *ℤ (pos J *ℤ (R -ℤ ρ))
    even_unit M K W J h q f =
        let f' = simp diffs at (rw (q, parts R, parts ρ, parts u) at f) in
        cancel (M * K) h u (pos 2 *ℤ (pos J *ℤ (R -ℤ ρ))) (rw (parts R, parts ρ, parts u) (simp diffs (omega ring)))

    go : Dec (w ≤ m + k) → (w ≤ m + k) × (R ≡ pos (2 ^ (m + k - w)) *ℤ u +ℤ ρ)
    go (yes h) =
        let q = sym (pow-add 2 m k) ∙ ap (λ t. 2 ^ t) (omega arith) ∙ pow-add 2 w (m + k - w) in
        (h, cancel (2 ^ w) (pow_pos w) R (pos (2 ^ (m + k - w)) *ℤ u +ℤ ρ) (e ∙ rw B.is (up_block (2 ^ m) (2 ^ k) (2 ^ w) (2 ^ (m + k - w)) q)))
    go (no h) =
        let j = w - suc (m + k) in
        let q : 2 ^ w ≡ 2 ^ m * 2 ^ k * (2 * 2 ^ j) = ap (λ t. 2 ^ t) (omega arith) ∙ pow-add 2 (m + k) (suc j) ∙ rw (pow-add 2 m k, pow-succ' 2 j) in
        let X = pos (2 ^ j) *ℤ (R -ℤ ρ) in
        let H = B.digit.half in
        let f = sym B.digit.odd ∙ even_unit (2 ^ m) (2 ^ k) (2 ^ w) (2 ^ j) (rw (← pow-add 2 m k) (pow_pos (m + k))) q (rw B.is at e) in
        let z = simp diffs at (rw (parts H, parts X) at f) in
        absurd (omega ring)
