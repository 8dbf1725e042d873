-- A rule of a table, of any element type, proved at all of its entries by one test that is computed. Assumes nothing.
use mathlib.Core.Path.{◌∙◌, subst, sym}
use mathlib.Core.Bool.{Bool, true, false, ◌&&◌}
use mathlib.Core.List.{List, [], ◌∷◌}
use Prim.Native.Nat.{ℕ, zero, suc, ◌+◌, ◌<◌}
use native.Mathlib.Nat.{add-zero, zero-add, add-suc, suc-add, le_of_suc-le-suc, not-suc-le-zero}
use lib.Dec.{T}
use lib.ListN.{get_or}
use Rattle.laws.proofs.Choices.{and_both}

module _ {A : Type 0} (f : ℕ → A → Bool) where
  -- the test f passes at the first n entries of a list and their places, counted from i
  abbrev pub passes : ℕ → ℕ → List A → Bool
  passes zero i xs = true
  passes (suc n) i [] = false
  passes (suc n) i (x ∷ xs) = f i x && passes n (suc i) xs

  from : (n i : ℕ) (xs : List A) → T (passes n i xs) → (a : A) (k : ℕ) → k < n → T (f (i + k) (get_or xs k a))
  from zero i xs t a k h = absurd (not-suc-le-zero h)
  from (suc n) i [] t a k h = absurd t
  from (suc n) i (x ∷ xs) t a zero h = subst (λ (m : ℕ). T (f m x)) (sym (add-zero i)) (and_both (f i x) (passes n (suc i) xs) t).0
  from (suc n) i (x ∷ xs) t a (suc k) h =
      subst (λ (m : ℕ). T (f m (get_or xs k a))) (suc-add i k ∙ sym (add-suc i k))
      (from n (suc i) xs (and_both (f i x) (passes n (suc i) xs) t).1 a k (le_of_suc-le-suc h))

  -- so it passes at each of them
  pub at : (n : ℕ) (xs : List A) → T (passes n 0 xs) → (a : A) (k : ℕ) → k < n → T (f k (get_or xs k a))
  at n xs t a k h = subst (λ (m : ℕ). T (f m (get_or xs k a))) (zero-add k) (from n 0 xs t a k h)
