-- A list of the values of a function: its length, and its elements. Assumes nothing.
use mathlib.Core.Path.{◌≡◌, refl, ap, sym, ◌∙◌}
use mathlib.Core.List.{List, ◌++◌}
use Prim.Native.Nat.{ℕ, zero, suc, ◌+◌, ◌<◌}
use native.Mathlib.Omega.{arith}
use native.Mathlib.Nat.{add-zero, add-suc, suc-add}
use lib.ListN.{length, get_or, get_or-append}
use Rattle.meaning.specs.Digits.{listed}

module _ {A : Type 0} (f : ℕ → A) where
  pub listed_length : (i n : ℕ) → length (listed f i n) ≡ n
  unfolding listed
  listed_length i zero = refl
  listed_length i (suc n) = ap suc (listed_length (suc i) n)

  pub listed_at : (i n k : ℕ) (d : A) → k < n → get_or (listed f i n) k d ≡ f (i + k)
  unfolding listed
  listed_at i zero k d h = absurd (omega arith)
  listed_at i (suc n) zero d h = ap f (sym (add-zero i))
  listed_at i (suc n) (suc k) d h = listed_at (suc i) n k d (omega arith) ∙ ap f (suc-add i k ∙ sym (add-suc i k))

  -- the first n values, alone and in front of others
  pub listed_first : (n k : ℕ) (d : A) → k < n → get_or (listed f 0 n) k d ≡ f k
  listed_first n k d h = listed_at 0 n k d h ∙ ap f (omega arith)

  pub listed_front : (n k : ℕ) (d : A) (rest : List A) → k < n → get_or (listed f 0 n ++ rest) k d ≡ f k
  listed_front n k d rest h = get_or-append (listed f 0 n) rest d k (omega (arith, listed_length 0 n)) ∙ listed_first n k d h
