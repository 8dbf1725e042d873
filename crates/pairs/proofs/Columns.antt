-- The columns of two rows as one string: its digits are odd and at most 7, one for each place. Assumes nothing.
use mathlib.Core.Path.{◌≡◌, refl, ap}
use mathlib.Core.List.{List, [], ◌∷◌}
use Prim.Native.Nat.{ℕ, zero, suc}
use native.Mathlib.Omega.{arith}
use lib.Dec.{T}
use lib.IntN.{ℤ, pos, negsuc}
use lib.ListN.{length}
use Rattle.laws.proofs.Choices.{and_of}
use Rattle.meaning.specs.Digits.{largest, in_set, all_in}
use Rattle.meaning.specs.Joint.{digit_in, column, columns_of}

-- the width whose entries are the four of columns
abbrev pub column_width : ℕ
column_width = 4

-- a column is a digit of that width
pub column_in : (x y : ℤ) → T (in_set (largest column_width) (column x y))
unfolding in_set column
column_in (pos zero) (pos zero) = tt
column_in (pos zero) (pos (suc m)) = tt
column_in (pos zero) (negsuc m) = tt
column_in (pos (suc n)) (pos zero) = tt
column_in (pos (suc n)) (pos (suc m)) = tt
column_in (pos (suc n)) (negsuc m) = tt
column_in (negsuc n) (pos zero) = tt
column_in (negsuc n) (pos (suc m)) = tt
column_in (negsuc n) (negsuc m) = tt

-- and so are all
pub columns_in : (us vs : List ℤ) → T (all_in (largest column_width) (columns_of us vs))
unfolding all_in columns_of
columns_in [] [] = tt
columns_in [] (y ∷ ys) = and_of (in_set (largest column_width) (column (pos 0) y)) (all_in (largest column_width) (columns_of [] ys)) (column_in (pos 0) y) (columns_in [] ys)
columns_in (x ∷ xs) [] = and_of (in_set (largest column_width) (column x (pos 0))) (all_in (largest column_width) (columns_of xs [])) (column_in x (pos 0)) (columns_in xs [])
columns_in (x ∷ xs) (y ∷ ys) = and_of (in_set (largest column_width) (column x y)) (all_in (largest column_width) (columns_of xs ys)) (column_in x y) (columns_in xs ys)

-- the column at a place
pub columns_at : (us vs : List ℤ) (i : ℕ) → digit_in (columns_of us vs) i ≡ column (digit_in us i) (digit_in vs i)
unfolding columns_of column
columns_at [] [] i = refl
columns_at [] (y ∷ ys) zero = refl
columns_at [] (y ∷ ys) (suc i) = columns_at [] ys i
columns_at (x ∷ xs) [] zero = refl
columns_at (x ∷ xs) [] (suc i) = columns_at xs [] i
columns_at (x ∷ xs) (y ∷ ys) zero = refl
columns_at (x ∷ xs) (y ∷ ys) (suc i) = columns_at xs ys i

-- as many as a row has places, where both have as many
pub columns_length : (us vs : List ℤ) → length vs ≡ length us → length (columns_of us vs) ≡ length us
unfolding columns_of
columns_length [] [] e = refl
columns_length [] (y ∷ ys) e = absurd (omega arith)
columns_length (x ∷ xs) [] e = absurd (omega arith)
columns_length (x ∷ xs) (y ∷ ys) e = ap suc (columns_length xs ys (omega arith))
