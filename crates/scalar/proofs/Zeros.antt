-- The trailing zeros of a number whose low bytes are 0, by its first byte that is not.
-- Assumes nothing.
use mathlib.Core.Path.{◌≡◌, refl, sym, ap, ◌∙◌}
use mathlib.Core.Logic.{◌≢◌}
use Prim.Native.Nat.{ℕ, zero, suc, ◌+◌, ◌*◌, ◌-◌, ◌/◌, ◌%◌, ◌^◌, ◌≤◌, ◌<◌}
use native.Mathlib.Nat.{div-one, mod-eq_of_lt, suc-add, zero-add, mod-lt}
use native.Mathlib.Numerals.{add-one}
use native.Mathlib.Omega.{arith}
use lib.Count.{count_trailing_zeros, under, trailing_of_zero}
use lib.Pow.{pow_pos, shr-shr, mod-pow-add, mod-mod-pow, field}
use Rattle.laws.proofs.Powers.{trailing_any}

-- a zeros at the low end
over : (a k N : ℕ) → N % 2 ^ a ≡ 0 → count_trailing_zeros (a + k) N ≡ a + count_trailing_zeros k (N / 2 ^ a)
unfolding count_trailing_zeros
over zero k N h = ap (λ d. count_trailing_zeros d N) (zero-add k) ∙ sym (zero-add (count_trailing_zeros k (N / 2 ^ 0)) ∙ ap (count_trailing_zeros k) (div-one N))
over (suc a) k N h =
    let m : N % 2 ^ (a + 1) ≡ (N / 2 % 2 ^ a) * 2 + N % 2 = mod-pow-add N a 1 in
    let z : N % 2 ^ (a + 1) ≡ 0 = rw (add-one a) h in
    let even : N % 2 ≡ 0 = omega arith in
    let rest : N / 2 % 2 ^ a ≡ 0 = omega arith in
    let q : N / 2 / 2 ^ a ≡ N / 2 ^ suc a = shr-shr N 1 a ∙ ap (λ t. N / 2 ^ t) (omega arith) in
    ap (λ d. count_trailing_zeros d N) (suc-add a k)
    ∙ ap (λ d. under d (count_trailing_zeros (a + k) (N / 2))) even
    ∙ ap suc (over a k (N / 2) rest ∙ ap (λ t. a + count_trailing_zeros k t) q)
    ∙ sym (suc-add a (count_trailing_zeros k (N / 2 ^ suc a)))

-- a 1 among the low j bits
among : (j k M : ℕ) → M % 2 ^ j ≢ 0 → j ≤ k → count_trailing_zeros k M ≡ count_trailing_zeros j (M % 2 ^ j)
unfolding count_trailing_zeros
among zero k M n h = absurd (n (omega (arith, mod-lt M (pow_pos 0))))
among (suc j) zero M n h = absurd (omega arith)
among (suc j) (suc k) M n h =
    go (M % 2) refl (λ z. among j k (M / 2) (rest z) (omega arith)) ∙ sym (ap (λ d. under d (count_trailing_zeros j (M % 2 ^ suc j / 2))) low ∙ ap (λ t. under (M % 2) (count_trailing_zeros j t)) high)
  where
    low : M % 2 ^ suc j % 2 ≡ M % 2
    low = ap (λ t. M % 2 ^ t % 2) (sym (add-one j)) ∙ mod-mod-pow M j 1

    high : M % 2 ^ suc j / 2 ≡ M / 2 % 2 ^ j
    high = ap (λ t. M % 2 ^ t / 2) (sym (add-one j)) ∙ field M j 1

    rest : M % 2 ≡ 0 → M / 2 % 2 ^ j ≢ 0
    rest z e = n (ap (λ t. M % 2 ^ t) (sym (add-one j)) ∙ mod-pow-add M j 1 ∙ omega arith)

    go : (r : ℕ) → M % 2 ≡ r → (M % 2 ≡ 0 → count_trailing_zeros k (M / 2) ≡ count_trailing_zeros j (M / 2 % 2 ^ j)) → under r (count_trailing_zeros k (M / 2)) ≡ under r (count_trailing_zeros j (M / 2 % 2 ^ j))
    go zero e f = ap suc (f e)
    go (suc r) e f = refl

-- one byte more is 0
pub zeros_more : (N q : ℕ) → N % 2 ^ (8 * q) ≡ 0 → N / 2 ^ (8 * q) % 256 ≡ 0 → N % 2 ^ (8 * (q + 1)) ≡ 0
zeros_more N q h z =
    ap (λ t. N % 2 ^ t) (omega arith) ∙ mod-pow-add N 8 (8 * q) ∙ ap (λ t. t * 2 ^ (8 * q) + N % 2 ^ (8 * q)) z ∙ omega arith

-- byte q, x, is the first that is not 0
pub zeros_found : (N n q x : ℕ) → N % 2 ^ (8 * q) ≡ 0 → x ≡ N / 2 ^ (8 * q) % 256 → x ≢ 0 → q < n → 8 * q + count_trailing_zeros 32 x ≡ count_trailing_zeros (8 * n) N
zeros_found N n q x h e o l =
    let X = N / 2 ^ (8 * q) in
    let span : 8 * q + (8 * n - 8 * q) ≡ 8 * n = omega arith in
    let under_byte : X % 2 ^ 8 < 2 ^ 8 = mod-lt X (pow_pos 8) in
    let low : count_trailing_zeros 32 x ≡ count_trailing_zeros 8 (X % 2 ^ 8) =
    trailing_any 32 8 x (omega arith) (omega arith) (omega arith) ∙ ap (count_trailing_zeros 8) e in
    ap (λ t. 8 * q + t) (low ∙ sym (among 8 (8 * n - 8 * q) X (λ z. o (e ∙ z)) (omega arith)))
    ∙ sym (over (8 * q) (8 * n - 8 * q) N h)
    ∙ ap (λ t. count_trailing_zeros t N) span

-- no byte is
pub zeros_all : (N n : ℕ) → N % 2 ^ (8 * n) ≡ 0 → N < 2 ^ (8 * n) → 8 * n ≡ count_trailing_zeros (8 * n) N
zeros_all N n h l = sym (ap (count_trailing_zeros (8 * n)) (sym (mod-eq_of_lt l) ∙ h) ∙ trailing_of_zero (8 * n))
