-- A string by its lowest digit and the rest: a digit put under a string and taken off again, and what the lowest digit of a string is, by what the string is worth.
-- Assumes nothing.
use mathlib.Core.Path.{◌≡◌, ap, sym, ◌∙◌}
use mathlib.Core.List.{List, ◌∷◌}
use Prim.Native.Nat.{ℕ, suc, ◌%◌}
use native.Mathlib.Omega.{arith}
use lib.Dec.{T}
use lib.IntN.{ℤ, pos, nat_abs, ◌+ℤ◌, ◌*ℤ◌}
use Rattle.laws.proofs.Integers.{parts, diffs, ring, abs_is}
use Rattle.laws.proofs.Choices.{and_both, and_of}
use Rattle.meaning.specs.Digits.{in_set, largest, all_in, worth}
use Rattle.meaning.specs.Searching.{Spells}

-- what is left of a sum
left_same : (d x y : ℤ) → d +ℤ pos 2 *ℤ x ≡ d +ℤ pos 2 *ℤ y → x ≡ y
left_same d x y e =
    let k = simp diffs at (rw (parts d, parts x, parts y) at e) in
    rw (parts x, parts y) (omega ring)

-- ---- a digit under a string
module _ {w places p : ℕ} (next : places ≡ suc p) {z d y : ℤ} (sum : z ≡ d +ℤ pos 2 *ℤ y) {ds : List ℤ} where
  pub put : T (in_set (largest w) d) → Spells w p y ds → Spells w places z (d ∷ ds)
  unfolding all_in worth
  put t s =
      record {
        length_is = omega (arith, s.length_is);
        is_in_set = and_of (in_set (largest w) d) (all_in (largest w) ds) t s.is_in_set;
        worth_is = ap (λ x. d +ℤ pos 2 *ℤ x) s.worth_is ∙ sym sum;
      }

  pub rest : {x : ℤ} → x ≡ d → Spells w places z (x ∷ ds) → Spells w p y ds
  unfolding all_in worth
  rest {x} q s =
      record {
        length_is = omega (arith, s.length_is);
        is_in_set = (and_both (in_set (largest w) x) (all_in (largest w) ds) s.is_in_set).1;
        worth_is = left_same d (worth ds) y (ap (λ t. t +ℤ pos 2 *ℤ worth ds) (sym q) ∙ s.worth_is ∙ sum);
      }

-- ---- the lowest digit
module _ {w places m : ℕ} {d : ℤ} {ds : List ℤ} (s : Spells w places (pos m) (d ∷ ds)) where
  -- it is odd where the number is
  pub lowest_parity : nat_abs d % 2 ≡ m % 2
  unfolding worth
  lowest_parity = by (worth ds) s.worth_is
    where
      by : (x : ℤ) → d +ℤ pos 2 *ℤ x ≡ pos m → nat_abs d % 2 ≡ m % 2
      by x e = let k = simp diffs at (rw (parts d, parts x) at e) in omega (ring, abs_is d)

  pub lowest_in : T (in_set (largest w) d)
  unfolding all_in
  lowest_in = (and_both (in_set (largest w) d) (all_in (largest w) ds) s.is_in_set).0
