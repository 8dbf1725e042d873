-- Form 1, MOF: the string is worth N, lies in D_2 and has n + 1 places, and the signs of its nonzeros alternate. Assumes nothing.
use mathlib.Core.Path.{◌≡◌, refl, sym, ap, ◌∙◌}
use mathlib.Core.Logic.{◌≢◌}
use Prim.Native.Nat.{ℕ, zero, suc, ◌+◌, ◌*◌, ◌-◌, ◌/◌, ◌%◌, ◌^◌, ◌<◌, ◌≤◌}
use native.Mathlib.Omega.{arith}
use native.Mathlib.Numerals.{add-one}
use native.Mathlib.Nat.{add-zero, add-suc, suc-add, zero-add, div-eq_of_lt, div-one}
use lib.Dec.{T}
use lib.ListN.{length, get_or}
use lib.Pow.{shr-shr}
use lib.IntN.{pos, neg_ℤ, ◌+ℤ◌, ◌-ℤ◌, ◌*ℤ◌}
use Rattle.laws.proofs.Integers.{diffs, ring, minus}
use Rattle.laws.proofs.Choices.{and_of}
use Rattle.meaning.specs.Scalars.{bit, below}
use Rattle.meaning.specs.Digits.{worth, all_in, in_set, largest, listed}
use Rattle.meaning.specs.Mof.{mof, mof_digit}
use Rattle.forms.proofs.Rest.{below_suc}
use Rattle.forms.proofs.Listed.{listed_length, listed_at}

-- a difference of two bits
bits_in : (a b : ℕ) → a < 2 → b < 2 → T (in_set (largest 2) (pos a -ℤ pos b))
unfolding in_set
bits_in zero zero h k = tt
bits_in zero (suc zero) h k = tt
bits_in (suc zero) zero h k = tt
bits_in (suc zero) (suc zero) h k = tt
bits_in zero (suc (suc b)) h k = absurd (omega arith)
bits_in (suc zero) (suc (suc b)) h k = absurd (omega arith)
bits_in (suc (suc a)) b h k = absurd (omega arith)

all_in_is : (N i p : ℕ) → T (all_in (largest 2) (listed (mof_digit N) i p))
unfolding listed all_in
all_in_is N i zero = tt
all_in_is N i (suc p) =
    and_of (in_set (largest 2) (mof_digit N i)) (all_in (largest 2) (listed (mof_digit N) (suc i) p)) (bits_in (below N i) (bit N i) (omega arith) (omega arith)) (all_in_is N (suc i) p)

-- the places from i on, of which the last is above the bits of N
from_worth : (N i p : ℕ) → N / 2 ^ (i + p) ≡ 0 → worth (listed (mof_digit N) i (suc p)) ≡ pos (below N i + N / 2 ^ i)
unfolding listed worth
from_worth N i zero h =
    let z : N / 2 ^ i ≡ 0 = ap (λ t. N / 2 ^ t) (sym (add-zero i)) ∙ h in
    ap (λ t. (pos (below N i) -ℤ pos (t % 2)) +ℤ pos 0) z ∙ ap pos (omega arith) ∙ ap (λ t. pos (below N i + t)) (sym z)
from_worth N i (suc p) h =
    let r = from_worth N (suc i) p (ap (λ t. N / 2 ^ t) (suc-add i p ∙ sym (add-suc i p)) ∙ h) in
    let e : N / 2 ^ suc i ≡ N / 2 ^ i / 2 = ap (λ t. N / 2 ^ t) (sym (add-one i)) ∙ sym (shr-shr N i 1) in
    ap (λ t. (pos (below N i) -ℤ pos (bit N i)) +ℤ pos 2 *ℤ t) (r ∙ ap (λ t. pos (t + N / 2 ^ suc i)) (below_suc N i) ∙ ap (λ t. pos (bit N i + t)) e)
    ∙ law (below N i) (N / 2 ^ i)
  where
    sum : (b x r q : ℕ) → x ≡ 2 * q + r → (pos b -ℤ pos r) +ℤ pos 2 *ℤ pos (r + q) ≡ pos (b + x)
    sum b x r q e = rw (minus r) (simp diffs (omega ring))

    law : (b x : ℕ) → (pos b -ℤ pos (x % 2)) +ℤ pos 2 *ℤ pos (x % 2 + x / 2) ≡ pos (b + x)
    law b x = sum b x (x % 2) (x / 2) (omega arith)

module _ (N n : ℕ) where
  pub mof_length : length (mof N n) ≡ n + 1
  unfolding mof
  mof_length = listed_length (mof_digit N) 0 (n + 1)

  pub mof_digits : T (all_in (largest 2) (mof N n))
  unfolding mof
  mof_digits = all_in_is N 0 (n + 1)

  -- digit by digit
  pub mof_at : (j : ℕ) → j ≤ n → get_or (mof N n) j (pos 0) ≡ mof_digit N j
  unfolding mof
  mof_at j h = listed_at (mof_digit N) 0 (n + 1) j (pos 0) (omega arith) ∙ ap (mof_digit N) (zero-add j)

  pub mof_worth : N < 2 ^ n → worth (mof N n) ≡ pos N
  unfolding mof
  mof_worth h =
      let z : N / 2 ^ (0 + n) ≡ 0 = ap (λ t. N / 2 ^ t) (zero-add n) ∙ div-eq_of_lt h in
      rw (add-one n) (from_worth N 0 n z) ∙ ap pos (start N)
    where
      start : (N : ℕ) → below N 0 + N / 2 ^ 0 ≡ N
      start N = omega (arith, div-one (2 * N), div-one N)

-- ---- signs alternate
-- bits that are equal down from place j to place i
equal_down : (N i k : ℕ) → ((m : ℕ) → i < m → m < i + suc k → mof_digit N m ≡ pos 0) → below N (i + suc k) ≡ bit N i
equal_down N i zero z = ap (λ t. below N t) (add-one i) ∙ below_suc N i
equal_down N i (suc k) z =
    ap (λ t. below N t) (add-suc i (suc k)) ∙ below_suc N (i + suc k) ∙ same (below N (i + suc k)) (bit N (i + suc k)) (z (i + suc k) (omega arith) (omega arith))
    ∙ equal_down N i k (λ m h l. z m h (omega arith))
  where
    same : (a b : ℕ) → pos a -ℤ pos b ≡ pos 0 → b ≡ a
    same a b e = let k = simp diffs at (rw (minus b) at e) in omega ring

-- of two nonzero digits with zeros between them, one is the other with its sign changed
pub mof_alternates : (N i j : ℕ) → i < j → mof_digit N i ≢ pos 0 → mof_digit N j ≢ pos 0 → ((m : ℕ) → i < m → m < j → mof_digit N m ≡ pos 0) → mof_digit N j ≡ neg_ℤ (mof_digit N i)
mof_alternates N i j h a b z =
    go (below N i) (bit N i) (below N j) (bit N j) (omega arith) (omega arith) (omega arith) (omega arith) a b
    (ap (λ t. below N t) (omega arith) ∙ equal_down N i (j - suc i) (λ m l k. z m l (omega arith)))
  where
    go : (p q r s : ℕ) → p < 2 → q < 2 → r < 2 → s < 2 → pos p -ℤ pos q ≢ pos 0 → pos r -ℤ pos s ≢ pos 0 → r ≡ q → pos r -ℤ pos s ≡ neg_ℤ (pos p -ℤ pos q)
    go zero zero r s hp hq hr hs a b e = absurd (a refl)
    go (suc zero) (suc zero) r s hp hq hr hs a b e = absurd (a refl)
    go zero (suc zero) zero s hp hq hr hs a b e = absurd (omega arith)
    go zero (suc zero) (suc zero) zero hp hq hr hs a b e = refl
    go zero (suc zero) (suc zero) (suc zero) hp hq hr hs a b e = absurd (b refl)
    go zero (suc zero) (suc zero) (suc (suc s)) hp hq hr hs a b e = absurd (omega arith)
    go zero (suc zero) (suc (suc r)) s hp hq hr hs a b e = absurd (omega arith)
    go (suc zero) zero zero zero hp hq hr hs a b e = absurd (b refl)
    go (suc zero) zero zero (suc zero) hp hq hr hs a b e = refl
    go (suc zero) zero zero (suc (suc s)) hp hq hr hs a b e = absurd (omega arith)
    go (suc zero) zero (suc r) s hp hq hr hs a b e = absurd (omega arith)
    go (suc (suc p)) q r s hp hq hr hs a b e = absurd (omega arith)
    go zero (suc (suc q)) r s hp hq hr hs a b e = absurd (omega arith)
    go (suc zero) (suc (suc q)) r s hp hq hr hs a b e = absurd (omega arith)
