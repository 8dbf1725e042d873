-- What is left of N at a place of wMOF: the low m bits of N as a two's complement number, and how it falls by a place or by a window. Assumes nothing.
use mathlib.Core.Path.{◌≡◌, refl, sym, ap, ◌∙◌}
use mathlib.Core.Logic.{◌≢◌}
use Prim.Native.Nat.{ℕ, zero, suc, ◌+◌, ◌*◌, ◌-◌, ◌/◌, ◌%◌, ◌^◌, ◌<◌, ◌≤◌}
use native.Mathlib.Omega.{arith}
use native.Mathlib.Decide.{dec_le}
use native.Mathlib.Numerals.{add-one}
use native.Mathlib.Nat.{add_comm, mul_assoc, mul-div-mul_left, mul-mod_left, mod-lt, mod-eq_of_lt, div-eq_of_lt, div-one, pow-succ'}
use lib.Pow.{pow_pos, pow-add, mod-pow-add, shl-shr, shr-shr, field, mod-mod-pow}
use lib.IntN.{ℤ, pos, nat_abs, ◌+ℤ◌, ◌-ℤ◌, ◌*ℤ◌}
use Rattle.laws.proofs.Integers.{diff, diff_is, diffs, ring, abs, abs_max, abs_mul}
use Rattle.meaning.specs.Scalars.{bit, below}
use Rattle.meaning.specs.Windows.{window_bits, window_worth}
use Rattle.meaning.specs.Wmof.{window_at}

-- what the window at place i is worth, by bit i
abbrev window : ℕ → ℕ → ℕ → ℤ
window w N i = pos ((window_bits w N i + 1) / 2) -ℤ pos (2 ^ w * bit N i)

-- what the m places from 0 have to be worth, R_(m - 1): the low m bits of N as a two's complement number
pub rest : ℕ → ℕ → ℤ
rest N m = diff (N % 2 ^ m) (2 ^ m * below N m)

-- the bit under place i + 1 is bit i
pub below_suc : (N i : ℕ) → below N (suc i) ≡ bit N i
below_suc N i = ap (λ t. 2 * N / t % 2) (pow-succ' 2 i) ∙ ap (λ t. t % 2) (mul-div-mul_left N (2 ^ i) (omega arith))

-- one bit more
mod_suc : (N i : ℕ) → N % 2 ^ suc i ≡ bit N i * 2 ^ i + N % 2 ^ i
mod_suc N i = ap (λ t. N % 2 ^ t) (omega arith) ∙ mod-pow-add N 1 i

-- over variables: omega takes no `%` for a factor of a product
carry : (b P r : ℕ) → diff (b * P + r) (2 * P * b) ≡ diff r (P * b)
carry b P r = omega ring

-- (N mod 2 ^ i) - bit i · 2 ^ i
pub rest_suc : (N i : ℕ) → rest N (suc i) ≡ diff (N % 2 ^ i) (2 ^ i * bit N i)
unfolding rest
rest_suc N i = rw (below_suc N i, mod_suc N i, pow-succ' 2 i) (carry (bit N i) (2 ^ i) (N % 2 ^ i))

-- no places
pub rest_zero : (N : ℕ) → rest N 0 ≡ pos 0
unfolding rest
rest_zero N = simp diffs (omega (ring, mod-lt N {m = 1} (omega arith), ap (λ t. t % 2) (div-one (2 * N))))

-- all of N
pub rest_all : (N n : ℕ) → N < 2 ^ n → rest N (suc n) ≡ pos N
rest_all N n h = rest_suc N n ∙ rw (mod-eq_of_lt h, div-eq_of_lt h) (simp diffs (omega ring))

-- equal bits
pub rest_same : (N i : ℕ) → bit N i ≡ below N i → rest N (suc i) ≡ rest N i
unfolding rest
rest_same N i e = rest_suc N i ∙ ap (λ t. diff (N % 2 ^ i) (2 ^ i * t)) e

-- different bits
pub data Differ (b c : ℕ) : Type 0 where
  rise : b ≡ 0 → c ≡ 1 → Differ b c
  fall : b ≡ 1 → c ≡ 0 → Differ b c

-- two bits that are not equal
pub differ : (b c : ℕ) → b < 2 → c < 2 → b ≢ c → Differ b c
differ zero zero h k n = absurd (n refl)
differ zero (suc zero) h k n = rise refl refl
differ zero (suc (suc c)) h k n = absurd (omega arith)
differ (suc zero) zero h k n = fall refl refl
differ (suc zero) (suc c) h k n = absurd (n (omega arith))
differ (suc (suc b)) c h k n = absurd (omega arith)

-- a difference from a multiple by 0 or 1
diff_small : (r P b : ℕ) → r < P → b < 2 → nat_abs (diff r (P * b)) ≤ P
diff_small r P zero h k = abs_max (diff r (P * 0)) (omega (arith, diff_is r (P * 0)))
diff_small r P (suc zero) h k = abs_max (diff r (P * 1)) (omega (arith, diff_is r (P * 1)))
diff_small r P (suc (suc b)) h k = absurd (omega arith)

-- and a difference from below
diff_big : (r r' P b c : ℕ) → 2 * r ≡ c * P + r' → r' < P → Differ b c → P ≤ 2 * nat_abs (diff r (P * b))
diff_big r r' P b c e h (rise p q) =
    omega (arith, diff_is r (P * b), abs (diff r (P * b)), ap (λ t. P * t) p, ap (λ t. t * P) q)
diff_big r r' P b c e h (fall p q) =
    omega (arith, diff_is r (P * b), abs (diff r (P * b)), ap (λ t. P * t) p, ap (λ t. t * P) q)

-- at most half of the next place up
pub rest_small : (N m : ℕ) → 2 * nat_abs (rest N m) ≤ 2 ^ m
rest_small N zero = omega (arith, ap nat_abs (rest_zero N))
rest_small N (suc i) =
    omega (arith, ap nat_abs (rest_suc N i), diff_small (N % 2 ^ i) (2 ^ i) (bit N i) (mod-lt N (pow_pos i)) (omega arith), pow-succ' 2 i)

-- and, at different bits, a quarter at least
pub rest_big : (N i : ℕ) → Differ (bit N i) (below N i) → 2 ^ i ≤ 2 * nat_abs (rest N (suc i))
rest_big N i h =
    let f : 2 * N % 2 ^ (i + 1) ≡ 2 * (N % 2 ^ i) = mod-pow-add (2 * N) i 1 ∙ rw (half N) (omega arith) in
    let g : 2 * N % 2 ^ (i + 1) ≡ below N i * 2 ^ i + 2 * N % 2 ^ i = ap (λ t. 2 * N % 2 ^ t) (add_comm i 1) ∙ mod-pow-add (2 * N) 1 i in
    omega (arith, ap nat_abs (rest_suc N i), diff_big (N % 2 ^ i) (2 * N % 2 ^ i) (2 ^ i) (bit N i) (below N i) (sym f ∙ g) (mod-lt (2 * N) (pow_pos i)) h)
  where
    half : (n : ℕ) → 2 * n / 2 ≡ n
    half n = omega arith

-- ---- a window, over M = N · 2 ^ w, so that no place lies under 0
below_shift : (w N m : ℕ) → below (N * 2 ^ w) (m + w) ≡ below N m
below_shift w N m =
    ap (λ t. t / 2 ^ (m + w) % 2) (sym (mul_assoc 2 N (2 ^ w)))
    ∙ ap (λ t. 2 * N * 2 ^ w / 2 ^ t % 2) (add_comm m w)
    ∙ ap (λ t. t % 2) (sym (shr-shr (2 * N * 2 ^ w) w m) ∙ ap (λ t. t / 2 ^ m) (shl-shr (2 * N) w))

-- N · 2 ^ w at w places up
rest_shift : (w N m : ℕ) → rest (N * 2 ^ w) (m + w) ≡ pos (2 ^ w) *ℤ rest N m
unfolding rest
rest_shift w N m =
    let a : N * 2 ^ w % 2 ^ (m + w) ≡ N % 2 ^ m * 2 ^ w + 0 = mod-pow-add (N * 2 ^ w) m w ∙ rw (shl-shr N w, mul-mod_left N (2 ^ w)) in
    rw (a, below_shift w N m, pow-add 2 m w) (law (N % 2 ^ m) (2 ^ w) (2 ^ m) (below N m))
  where
    law : (r W P b : ℕ) → diff (r * W + 0) (P * W * b) ≡ pos W *ℤ diff r (P * b)
    law r W P b = simp diffs (omega ring)

-- and at any place
rest_under : (w N m : ℕ) → rest (N * 2 ^ w) m ≡ pos (2 ^ w) *ℤ rest N (m - w)
rest_under w N m = go (dec_le w m)
  where
    go : Dec (w ≤ m) → rest (N * 2 ^ w) m ≡ pos (2 ^ w) *ℤ rest N (m - w)
    go (yes h) = ap (λ t. rest (N * 2 ^ w) t) (omega arith) ∙ rest_shift w N (m - w)
    go (no h) =
        let f : N * 2 ^ w ≡ N * 2 ^ (w - m) * 2 ^ m = ap (λ t. N * 2 ^ t) (omega arith) ∙ ap (λ t. N * t) (pow-add 2 (w - m) m) ∙ sym (mul_assoc N (2 ^ (w - m)) (2 ^ m)) in
        let z : m - w ≡ 0 = omega arith in
        ap (λ t. rest t m) f
        ∙ ap (λ t. rest (N * 2 ^ (w - m) * 2 ^ m) t) (omega arith)
        ∙ rest_shift m (N * 2 ^ (w - m)) 0
        ∙ rw (z, rest_zero (N * 2 ^ (w - m)), rest_zero N) (simp diffs (omega ring))

-- a window's two leading bits, from its w + 1 bits alone: for a table by them
pub bits_top : (w N i : ℕ) → window_bits w N i / 2 ^ w ≡ bit N i
bits_top w N i =
    let A = N * 2 ^ w / 2 ^ i in
    ap (λ t. A % 2 ^ t / 2 ^ w) (add_comm w 1)
    ∙ field A 1 w
    ∙ ap (λ t. t % 2) (shr-shr (N * 2 ^ w) i w ∙ ap (λ t. N * 2 ^ w / 2 ^ t) (add_comm i w) ∙ sym (shr-shr (N * 2 ^ w) w i) ∙ ap (λ t. t / 2 ^ i) (shl-shr N w))

-- the second one
pub bits_next : (k N i : ℕ) → window_bits (suc k) N i / 2 ^ k % 2 ≡ below N i
bits_next k N i =
    let M = N * 2 ^ suc k in
    let A = M / 2 ^ i in
    let m : M ≡ 2 * N * 2 ^ k = ap (λ t. N * t) (pow-succ' 2 k) ∙ omega arith in
    let s : A / 2 ^ k ≡ 2 * N / 2 ^ i = shr-shr M i k ∙ ap (λ t. M / 2 ^ t) (add_comm i k) ∙ sym (shr-shr M k i) ∙ ap (λ t. t / 2 ^ i) (ap (λ t. t / 2 ^ k) m ∙ shl-shr (2 * N) k) in
    ap (λ t. A % 2 ^ t / 2 ^ k % 2) (omega arith) ∙ ap (λ t. t % 2) (field A 2 k) ∙ mod-mod-pow (A / 2 ^ k) 1 1 ∙ ap (λ t. t % 2) s

-- the window's worth by bit i and by its own leading bit
window_is : (w N i : ℕ) → window_at w N i ≡ window w N i
unfolding window_worth
window_is w N i = ap (λ b. pos ((window_bits w N i + 1) / 2) -ℤ pos (2 ^ w * b)) (bits_top w N i)

-- half of the window's bits, rounded up
bits_half : (w N i : ℕ) → (window_bits w N i + 1) / 2 ≡ N * 2 ^ w / 2 ^ suc i % 2 ^ w + N * 2 ^ w / 2 ^ i % 2
bits_half w N i =
    let A = N * 2 ^ w / 2 ^ i in
    let f = field A w 1 ∙ ap (λ t. t % 2 ^ w) (shr-shr (N * 2 ^ w) i 1 ∙ ap (λ t. N * 2 ^ w / 2 ^ t) (add-one i)) in
    let g = mod-mod-pow A w 1 in
    up_half (window_bits w N i) ∙ rw (f, g)
  where
    up_half : (s : ℕ) → (s + 1) / 2 ≡ s / 2 ^ 1 + s % 2 ^ 1
    up_half s = omega arith

-- the window of N · 2 ^ w
rest_open : (w N i : ℕ) → rest (N * 2 ^ w) (suc i + w) ≡ pos (2 ^ suc i) *ℤ window w N i +ℤ rest (N * 2 ^ w) (suc i)
unfolding rest
rest_open w N i =
    let M = N * 2 ^ w in
    let a = ap (λ t. M % 2 ^ t) (add_comm (suc i) w) ∙ mod-pow-add M w (suc i) in
    let b = below_shift w N (suc i) ∙ below_suc N i in
    rw (a, b, pow-add 2 (suc i) w, bits_half w N i, below_suc M i) (law (M / 2 ^ suc i % 2 ^ w) (2 ^ suc i) (M % 2 ^ suc i) (2 ^ w) (bit N i) (bit M i))
  where
    law : (q P r W b e : ℕ) → diff (q * P + r) (P * W * b) ≡ pos P *ℤ (pos (q + e) -ℤ pos (W * b)) +ℤ diff r (P * e)
    law q P r W b e = simp diffs (omega ring)

-- 2 ^ w · R_i = 2 ^ (i + 1) · v + 2 ^ w · R_(i - w), the last one 0 where i - w is negative
pub rest_window : (w N i : ℕ) → pos (2 ^ w) *ℤ rest N (suc i) ≡ pos (2 ^ suc i) *ℤ window_at w N i +ℤ pos (2 ^ w) *ℤ rest N (suc i - w)
rest_window w N i =
    sym (rest_shift w N (suc i)) ∙ rest_open w N i ∙ ap (λ t. pos (2 ^ suc i) *ℤ window w N i +ℤ t) (rest_under w N (suc i))
    ∙ ap (λ v. pos (2 ^ suc i) *ℤ v +ℤ pos (2 ^ w) *ℤ rest N (suc i - w)) (sym (window_is w N i))

-- what remains under a window is at most half of its lowest place
pub rest_low : (w N m : ℕ) → 2 * (2 ^ w * nat_abs (rest N (m - w))) ≤ 2 ^ m
rest_low w N m = omega (arith, rest_small (N * 2 ^ w) m, ap nat_abs (rest_under w N m), abs_mul (2 ^ w) (rest N (m - w)))
