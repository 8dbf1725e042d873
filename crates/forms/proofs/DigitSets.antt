-- The digit set D_w by tests, as the meaning has it, and as the odd digits of the derivations; the digit 2 ^ (w - 1) is not in it; a larger set has all digits of a smaller. Assumes nothing.
use mathlib.Core.Path.{◌≡◌, ap}
use mathlib.Core.Logic.{◌≢◌, ◌⊎◌, inl, inr}
use mathlib.Core.Bool.{Bool, true, false, ◌&&◌, ◌||◌}
use mathlib.Core.List.{List, [], ◌∷◌}
use Prim.Native.Nat.{ℕ, ◌-◌, ◌%◌, ◌^◌, ◌≤◌}
use native.Mathlib.Omega.{arith}
use lib.Dec.{T, leb, eqb, eqb→eq, leb→le, le→leb}
use lib.Pow.{pow_pos, pow_mono}
use lib.IntN.{ℤ, ℤ_discrete, pos, nat_abs, ◌*ℤ◌, ◌+ℤ◌}
use Rattle.laws.proofs.Integers.{parts, diffs, ring, abs_is, abs_zero, abs_mul}
use Rattle.laws.proofs.Division.{Parity, is_even, is_odd, parity}
use Rattle.laws.proofs.Powers.{pow_pred}
use Rattle.laws.proofs.Choices.{and_both, and_of, or_either, or_right, equal}
use Rattle.meaning.specs.Digits.{in_set, largest, all_in}
use Rattle.forms.proofs.Naf.{Digit, Digits, none, gap, some}

-- an odd number: its absolute value is odd
pub abs_odd : (d h : ℤ) → d ≡ pos 2 *ℤ h +ℤ pos 1 → nat_abs d % 2 ≡ 1
abs_odd d h e = let k = simp diffs at (rw (parts d, parts h) at e) in omega (ring, abs_is d)

-- an odd number of size at most m is in the set of m
pub odd_in : (m : ℕ) (d : ℤ) → nat_abs d % 2 ≡ 1 → nat_abs d ≤ m → T (in_set m d)
unfolding in_set
odd_in m d o l =
    or_right (eqb (nat_abs d) 0) (eqb (nat_abs d % 2) 1 && leb (nat_abs d) m)
    (and_of (eqb (nat_abs d % 2) 1) (leb (nat_abs d) m) (equal (nat_abs d % 2) 1 o) (le→leb (nat_abs d) m l))

-- and no digit of it is larger
pub in_size : (m : ℕ) (d : ℤ) → T (in_set m d) → nat_abs d ≤ m
unfolding in_set
in_size m d t = go (or_either (eqb (nat_abs d) 0) (eqb (nat_abs d % 2) 1 && leb (nat_abs d) m) t)
  where
    go : T (eqb (nat_abs d) 0) ⊎ T (eqb (nat_abs d % 2) 1 && leb (nat_abs d) m) → nat_abs d ≤ m
    go (inl z) = omega (arith, eqb→eq (nat_abs d) 0 z)
    go (inr z) = leb→le (nat_abs d) m (and_both (eqb (nat_abs d % 2) 1) (leb (nat_abs d) m) z).1

module _ (w : ℕ) (one : 1 ≤ w) where
  -- a digit of D_w that is not 0 is an odd digit
  pub digit_of : (d : ℤ) → T (in_set (largest w) d) → d ≢ pos 0 → Digit w d
  unfolding in_set
  digit_of d t n = go (or_either (eqb (nat_abs d) 0) (eqb (nat_abs d % 2) 1 && leb (nat_abs d) (largest w)) t)
    where
      odd : T (eqb (nat_abs d % 2) 1) × T (leb (nat_abs d) (largest w)) → Parity d → Digit w d
      odd (o, l) (is_even g e) = absurd (omega (arith, eqb→eq (nat_abs d % 2) 1 o, ap nat_abs e, abs_mul 2 g))
      odd (o, l) (is_odd g e) = record { half = g; odd = e; small = omega (arith, leb→le (nat_abs d) (largest w) l, pow_pred w one, pow_pos (w - 1)) }

      go : T (eqb (nat_abs d) 0) ⊎ T (eqb (nat_abs d % 2) 1 && leb (nat_abs d) (largest w)) → Digit w d
      go (inl z) = absurd (n (abs_zero d (omega (arith, eqb→eq (nat_abs d) 0 z))))
      go (inr z) = odd (and_both (eqb (nat_abs d % 2) 1) (leb (nat_abs d) (largest w)) z) (parity d)

  -- and an odd digit is one
  pub digit_in : (d : ℤ) → Digit w d → T (in_set (largest w) d)
  digit_in d D = odd_in (largest w) d (abs_odd d D.half D.odd) (omega (arith, D.small, pow_pred w one))

  -- 2 ^ (w - 1) is not in the set
  pub half_out : 2 ≤ w → T (in_set (largest w) (pos (2 ^ (w - 1)))) → ⊥
  half_out two t =
      let D = digit_of (pos (2 ^ (w - 1))) t (λ e. omega (arith, ap nat_abs e, pow_pos (w - 1))) in
      omega (arith, D.small, pow_pred w one)

  -- strings
  pub all_of : (ds : List ℤ) → T (all_in (largest w) ds) → Digits w ds
  unfolding all_in
  all_of [] t = none
  all_of (d ∷ ds) t =
      let (a, b) = and_both (in_set (largest w) d) (all_in (largest w) ds) t in
      pick (ℤ_discrete d (pos 0)) a (all_of ds b)
    where
      pick : Dec (d ≡ pos 0) → T (in_set (largest w) d) → Digits w ds → Digits w (d ∷ ds)
      pick (yes e) a s = rw e (gap s)
      pick (no n) a s = some (digit_of d a n) s

  pub all_in_is : {ds : List ℤ} → Digits w ds → T (all_in (largest w) ds)
  unfolding all_in in_set
  all_in_is none = tt
  all_in_is (gap s) = all_in_is s
  all_in_is (some {d} {ds} D s) = and_of (in_set (largest w) d) (all_in (largest w) ds) (digit_in d D) (all_in_is s)

-- an odd digit is not 0
pub digit_some : {w : ℕ} {d : ℤ} → Digit w d → d ≢ pos 0
digit_some {d = d} D e = omega (arith, abs_odd d D.half D.odd, ap nat_abs e)

-- ---- a larger set
module _ {m k : ℕ} (l : m ≤ k) where
  -- has the digits of a smaller
  in_larger : (d : ℤ) → T (in_set m d) → T (in_set k d)
  unfolding in_set
  in_larger d t = further (eqb (nat_abs d) 0) (eqb (nat_abs d % 2) 1 && leb (nat_abs d) m) (eqb (nat_abs d % 2) 1 && leb (nat_abs d) k) odd t
    where
      further : (p q r : Bool) → (T q → T r) → T (p || q) → T (p || r)
      further true q r f t = tt
      further false q r f t = f t

      odd : T (eqb (nat_abs d % 2) 1 && leb (nat_abs d) m) → T (eqb (nat_abs d % 2) 1 && leb (nat_abs d) k)
      odd h =
          let (o, s) = and_both (eqb (nat_abs d % 2) 1) (leb (nat_abs d) m) h in
          and_of (eqb (nat_abs d % 2) 1) (leb (nat_abs d) k) o (le→leb (nat_abs d) k (omega (arith, leb→le (nat_abs d) m s)))

  -- and its strings
  pub all_larger : (ds : List ℤ) → T (all_in m ds) → T (all_in k ds)
  unfolding all_in
  all_larger [] t = tt
  all_larger (d ∷ ds) t =
      let (a, b) = and_both (in_set m d) (all_in m ds) t in
      and_of (in_set k d) (all_in k ds) (in_larger d a) (all_larger ds b)

-- and so a larger width has those of a smaller
pub all_wider : {w v : ℕ} → w ≤ v → (ds : List ℤ) → T (all_in (largest w) ds) → T (all_in (largest v) ds)
all_wider {w} {v} l ds t = let p : 2 ^ (w - 1) ≤ 2 ^ (v - 1) = pow_mono {i = w - 1} {j = v - 1} (omega arith) in all_larger (omega arith) ds t
