-- Whether a digit is in a set, by its size m, as the code tests it.
-- Assumes nothing.
use mathlib.Core.Path.{◌≡◌, ap, sym, ◌∙◌}
use mathlib.Core.Bool.{false, ◌&&◌, ◌||◌}
use Prim.Native.Nat.{ℕ, ◌%◌, ◌≤◌, max}
use native.Mathlib.Decide.{ℕ_discrete}
use native.Mathlib.Omega.{arith}
use borrow.Author.Tests.{eq-eqb, ne_eqb, le-leb}
use lib.Dec.{eqb, leb}
use lib.IntN.{ℤ, nat_abs}
use Rattle.meaning.specs.Digits.{in_set}

module _ (largest : ℕ) (d : ℤ) (m : ℕ) (e : m ≡ nat_abs d) where
  -- the set by the size
  by : in_set largest d ≡ eqb m 0 || (eqb (m % 2) 1 && leb m largest)
  unfolding in_set
  by = ap (λ n. eqb n 0 || (eqb (n % 2) 1 && leb n largest)) (sym e)

  -- 0 is tested as 1
  module _ (n : ℕ) (f : n ≡ max m 1) where
    pub test_odd : 1 ≤ largest → n % 2 ≡ 1 → leb n largest ≡ in_set largest d
    test_odd one o = go (ℕ_discrete m 0)
      where
        go : Dec (m ≡ 0) → leb n largest ≡ in_set largest d
        go (yes z) = le-leb n largest (omega arith) ∙ sym (by ∙ simp (eq-eqb m 0 z))
        go (no z) = let k : n ≡ m = omega arith in ap (λ x. leb x largest) k ∙ sym (by ∙ simp (ne_eqb m 0 z, eq-eqb (m % 2) 1 (omega arith)))

    pub test_even : (n % 2 ≡ 1 → ⊥) → false ≡ in_set largest d
    test_even o = sym (by ∙ simp (ne_eqb m 0 (λ z. o (omega arith)), ne_eqb (m % 2) 1 (λ z. o (omega arith))))
