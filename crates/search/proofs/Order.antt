-- The digits in the order in which they are tried: every digit of a width has its number there, and what a number leaves over a digit, by their parities.
-- Assumes nothing.
use mathlib.Core.Path.{◌≡◌, refl, ap, sym, ◌∙◌}
use mathlib.Core.Logic.{◌⊎◌, inl, inr}
use mathlib.Core.Bool.{◌&&◌}
use Prim.Native.Nat.{ℕ, zero, suc, ◌+◌, ◌-◌, ◌/◌, ◌%◌, ◌≤◌, ◌<◌, ◌^◌, min}
use native.Mathlib.Decide.{ℕ_discrete}
use native.Mathlib.Omega.{arith}
use lib.Dec.{T, eqb, leb, eqb→eq, leb→le, le→leb}
use lib.Pow.{pow_pos}
use lib.IntN.{ℤ, pos, negsuc, neg_ℤ, nat_abs, ◌+ℤ◌, ◌-ℤ◌, ◌*ℤ◌}
use Rattle.laws.proofs.Integers.{up, dn, parts, diffs, ring, minus, abs_is, abs_neg, sub_is}
use Rattle.laws.proofs.Choices.{yes_is, no_is, and_both, and_of, or_either, or_right, equal, not_equal}
use Rattle.meaning.specs.Digits.{in_set, largest, nonzero}
use Rattle.forms.proofs.Strings.{nonzero_one}
use Rattle.width.specs.Widths.{Wide}
use Rattle.laws.proofs.Shifts.{doubled}
use Rattle.search.specs.Least.{digit_at, left_over}

-- ---- a set's digits
-- told by their size
digit_tell : (m : ℕ) (d : ℤ) → T (in_set m d) → (nat_abs d ≡ 0) ⊎ ((nat_abs d % 2 ≡ 1) × (nat_abs d ≤ m))
unfolding in_set
digit_tell m d t = go (or_either (eqb (nat_abs d) 0) (eqb (nat_abs d % 2) 1 && leb (nat_abs d) m) t)
  where
    go : T (eqb (nat_abs d) 0) ⊎ T (eqb (nat_abs d % 2) 1 && leb (nat_abs d) m) → (nat_abs d ≡ 0) ⊎ ((nat_abs d % 2 ≡ 1) × (nat_abs d ≤ m))
    go (inl z) = inl (eqb→eq (nat_abs d) 0 z)
    go (inr z) =
        let (o, l) = and_both (eqb (nat_abs d % 2) 1) (leb (nat_abs d) m) z in
        inr (eqb→eq (nat_abs d % 2) 1 o, leb→le (nat_abs d) m l)

-- an odd size that is small enough
digit_in : (m : ℕ) (d : ℤ) → nat_abs d % 2 ≡ 1 → nat_abs d ≤ m → T (in_set m d)
unfolding in_set
digit_in m d o l =
    or_right (eqb (nat_abs d) 0) (eqb (nat_abs d % 2) 1 && leb (nat_abs d) m)
    (and_of (eqb (nat_abs d % 2) 1) (leb (nat_abs d) m) (equal (nat_abs d % 2) 1 o) (le→leb (nat_abs d) m l))

-- ---- numbers of digits
-- an odd number stands for itself, and the even one after it for its negative
odd_digit : (i : ℕ) → i % 2 ≡ 1 → digit_at i ≡ pos i
unfolding digit_at
odd_digit i e = yes_is (eqb (i % 2) 1) (pos i) (neg_ℤ (pos (i - 1))) (equal (i % 2) 1 e)

even_digit : (i : ℕ) → i % 2 ≡ 0 → digit_at i ≡ neg_ℤ (pos (i - 1))
unfolding digit_at
even_digit i e = no_is (eqb (i % 2) 1) (pos i) (neg_ℤ (pos (i - 1))) (not_equal (i % 2) 1 (λ q. omega arith))

-- a number is odd or even
module _ {P : Type 0} (i : ℕ) (f : i % 2 ≡ 1 → P) (g : i % 2 ≡ 0 → P) where
  by_parity : P
  by_parity = go (ℕ_discrete (i % 2) 1)
    where
      go : Dec (i % 2 ≡ 1) → P
      go (yes e) = f e
      go (no n) = g (omega arith)

-- the number of a digit
unfoldable pub number_of : ℤ → ℕ
number_of (pos n) = n
number_of (negsuc n) = suc (suc n)

pub digit_numbered : (m : ℕ) (d : ℤ) → T (in_set m d) → digit_at (number_of d) ≡ d
unfolding number_of digit_at
digit_numbered m d t = go d (digit_tell m d t)
  where
    go : (d : ℤ) → (nat_abs d ≡ 0) ⊎ ((nat_abs d % 2 ≡ 1) × (nat_abs d ≤ m)) → digit_at (number_of d) ≡ d
    go (pos n) (inl e) = rw e refl
    go (pos n) (inr (o, l)) = odd_digit n o
    go (negsuc n) (inl e) = absurd (omega arith)
    go (negsuc n) (inr (o, l)) =
        let e : suc (suc n) - 1 ≡ suc n = omega arith in
        even_digit (suc (suc n)) (omega arith) ∙ ap (λ k. neg_ℤ (pos k)) e

-- a set's digits have the first numbers
pub number_small : (m : ℕ) (d : ℤ) → T (in_set m d) → number_of d < m + 2
unfolding number_of
number_small m d t = go d (digit_tell m d t)
  where
    go : (d : ℤ) → (nat_abs d ≡ 0) ⊎ ((nat_abs d % 2 ≡ 1) × (nat_abs d ≤ m)) → number_of d < m + 2
    go (pos n) (inl e) = omega arith
    go (pos n) (inr (o, l)) = omega arith
    go (negsuc n) (inl e) = absurd (omega arith)
    go (negsuc n) (inr (o, l)) = omega arith

pub number_at : (i : ℕ) → number_of (digit_at i) ≤ i
unfolding number_of digit_at
number_at zero = omega arith
number_at (suc zero) = omega arith
number_at (suc (suc i)) = by_parity (suc (suc i)) (λ e. omega (arith, ap number_of (odd_digit (suc (suc i)) e))) even
  where
    even : suc (suc i) % 2 ≡ 0 → number_of (digit_at (suc (suc i))) ≤ suc (suc i)
    even e =
        let q : suc (suc i) - 1 ≡ suc i = omega arith in
        omega (arith, ap number_of (even_digit (suc (suc i)) e ∙ ap (λ k. neg_ℤ (pos k)) q))

-- and the first numbers are those of a set's digits
pub numbered_in : (w i : ℕ) → Wide w → i < 2 ^ (w - 1) + 1 → T (in_set (largest w) (digit_at i))
unfolding in_set digit_at
numbered_in w zero law h = tt
numbered_in w (suc i) law h = by_parity (suc i) (λ e. odd e) (λ e. even e)
  where
    odd : suc i % 2 ≡ 1 → T (in_set (largest w) (digit_at (suc i)))
    odd e =
        let q = ap nat_abs (odd_digit (suc i) e) in
        digit_in (largest w) (digit_at (suc i)) (omega arith) (omega (arith, doubled w law.0, pow_pos (w - 1)))

    even : suc i % 2 ≡ 0 → T (in_set (largest w) (digit_at (suc i)))
    even e =
        let q = ap nat_abs (even_digit (suc i) e) ∙ abs_neg (suc i - 1) in
        digit_in (largest w) (digit_at (suc i)) (omega arith) (omega (arith, pow_pos (w - 1)))

-- all but the first of them count
pub nonzero_at : (i : ℕ) → nonzero (digit_at i) ≡ min i 1
unfolding nonzero digit_at
nonzero_at zero = refl
nonzero_at (suc i) = nonzero_one (digit_at (suc i)) (λ z. by_parity (suc i)
    (λ e. omega (arith, ap nat_abs (odd_digit (suc i) e), ap nat_abs z))
    (λ e. omega (arith, ap nat_abs (even_digit (suc i) e) ∙ abs_neg (suc i - 1), ap nat_abs z))) ∙ omega arith

-- ---- what is left over a digit
module _ (m i : ℕ) where
  pub left_even : i % 2 ≡ 0 → left_over m i ≡ m + (i - 1)
  left_even e = ap (λ d. nat_abs (pos m -ℤ d)) (even_digit i e) ∙ ap nat_abs (over (i - 1))
    where
      over : (k : ℕ) → pos m -ℤ neg_ℤ (pos k) ≡ pos (m + k)
      over k = rw (minus k) (simp diffs (omega ring))

  pub left_odd : i % 2 ≡ 1 → left_over m i ≡ (m - i) + (i - m)
  unfolding up dn
  left_odd e = ap (λ d. nat_abs (pos m -ℤ d)) (odd_digit i e) ∙ omega (arith, abs_is (pos m -ℤ pos i), sub_is (pos m) (pos i))

  pub left_most : left_over m i ≤ m + i
  left_most = by_parity i (λ e. omega (arith, left_odd e)) (λ e. omega (arith, left_even e))

-- a size is that of a number and of its negative
signed : (z : ℤ) (n : ℕ) → n ≡ nat_abs z → (z ≡ pos n) ⊎ (z ≡ neg_ℤ (pos n))
signed (pos a) n e = inl (ap pos (sym e))
signed (negsuc a) n e = inr (ap (λ k. neg_ℤ (pos k)) (sym e))

module _ (m r : ℕ) (d : ℤ) (left : r ≡ nat_abs (pos m -ℤ d)) where
  -- it is even where a string can have the digit
  pub left_parity : nat_abs d % 2 ≡ m % 2 → r % 2 ≡ 0
  unfolding up dn
  left_parity e = omega (arith, abs_is d, abs_is (pos m -ℤ d), sub_is (pos m) d)

  -- and the places above then have half of it, or the negative of that
  pub above : r % 2 ≡ 0 → (pos m ≡ d +ℤ pos 2 *ℤ pos (r / 2)) ⊎ (pos m ≡ d +ℤ pos 2 *ℤ neg_ℤ (pos (r / 2)))
  above e = go (signed (pos m -ℤ d) r left)
    where
      go : (pos m -ℤ d ≡ pos r) ⊎ (pos m -ℤ d ≡ neg_ℤ (pos r)) → (pos m ≡ d +ℤ pos 2 *ℤ pos (r / 2)) ⊎ (pos m ≡ d +ℤ pos 2 *ℤ neg_ℤ (pos (r / 2)))
      go (inl q) = let k = simp diffs at (rw (parts d) at q) in inl (rw (parts d) (simp diffs (omega ring)))
      go (inr q) = let k = simp diffs at (rw (minus r, parts d) at q) in inr (rw (minus (r / 2), parts d) (simp diffs (omega ring)))
