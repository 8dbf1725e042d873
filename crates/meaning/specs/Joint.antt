-- The joint sparse form of two scalars: two rows of digits -1, 0, 1 on the same places, place 0 first. A column is what the two rows have at one place.
-- That there is one such pair of rows, and one only, is a theorem, and so is that no pair of rows has fewer nonzero columns. Assumes nothing.
use Rattle.std.specs.Prelude.{◌≡◌, ◌≢◌, ◌⊎◌, List, [], ◌∷◌, ℕ, zero, suc, ◌+◌, T, ℤ, pos, negsuc, neg_ℤ, length, get_or}
use Rattle.meaning.specs.Digits.{all_in, worth}

-- ---- the form
-- the digits of a row are -1, 0, 1: the largest is 1
abbrev pub largest_in_row : ℕ
largest_in_row = 1

-- the digit at place i, 0 past the end
abbrev pub digit_in : List ℤ → ℕ → ℤ
digit_in ds i = get_or ds i (pos 0)

-- the column at place i is zero
pub record Empty (us vs : List ℤ) (i : ℕ) : Type 0 where
  pub first : digit_in us i ≡ pos 0
  pub second : digit_in vs i ≡ pos 0

-- a row has two neighbouring nonzero digits, at place i and above it
pub record Neighbours (ds : List ℤ) (i : ℕ) : Type 0 where
  pub lower : digit_in ds i ≢ pos 0
  pub higher : digit_in ds (suc i) ≢ pos 0

-- two neighbouring nonzero digits in a row never have opposite signs, and the other row is nonzero at the higher of the two places and zero at the lower
pub record Calm (ds other : List ℤ) (i : ℕ) : Type 0 where
  pub signs : Neighbours ds i → digit_in ds (suc i) ≢ neg_ℤ (digit_in ds i)
  pub higher : Neighbours ds i → digit_in other (suc i) ≢ pos 0
  pub lower : Neighbours ds i → digit_in other i ≡ pos 0

-- of the three columns from place i on at least one is zero
abbrev pub Gap : List ℤ → List ℤ → ℕ → Type 0
Gap us vs i = Empty us vs i ⊎ (Empty us vs (suc i) ⊎ Empty us vs (suc (suc i)))

-- any three consecutive columns have a gap, and both rows are calm
pub record Sparse (us vs : List ℤ) : Type 0 where
  pub gaps : (i : ℕ) → Gap us vs i
  pub first : (i : ℕ) → Calm us vs i
  pub second : (i : ℕ) → Calm vs us i

-- us and vs are rows of such digits, of whatever lengths, worth A and B
pub record Rows (A B : ℕ) (us vs : List ℤ) : Type 0 where
  pub first_in : T (all_in largest_in_row us)
  pub second_in : T (all_in largest_in_row vs)
  pub first_worth : worth us ≡ pos A
  pub second_worth : worth vs ≡ pos B

-- us and vs are the joint sparse form of A and B on n + 1 places
pub record JointForm (A B n : ℕ) (us vs : List ℤ) : Type 0 where
  pub first_length : length us ≡ n + 1
  pub second_length : length vs ≡ n + 1
  pub rows : Rows A B us vs
  pub sparse : Sparse us vs

-- ---- columns as digits
-- the entries 0 to 3 stand for the columns (1, 0), (0, 1), (1, 1), (1, -1), and their negatives for the negated columns: a column is the digit 2 e + 1 of its entry
-- e with its sign, and a zero column is 0
unfoldable pub column : ℤ → ℤ → ℤ
column (pos zero) (pos zero) = pos 0
column (pos (suc n)) (pos zero) = pos 1
column (pos zero) (pos (suc m)) = pos 3
column (pos (suc n)) (pos (suc m)) = pos 5
column (pos (suc n)) (negsuc m) = pos 7
column (negsuc n) (pos zero) = neg_ℤ (pos 1)
column (pos zero) (negsuc m) = neg_ℤ (pos 3)
column (negsuc n) (negsuc m) = neg_ℤ (pos 5)
column (negsuc n) (pos (suc m)) = neg_ℤ (pos 7)

-- the columns of two rows as one string, whose weight is the number of nonzero columns, whose top is theirs and whose tape is theirs: the shorter row has zeros
-- past its end
unfoldable pub columns_of : List ℤ → List ℤ → List ℤ
columns_of [] [] = []
columns_of [] (y ∷ ys) = column (pos 0) y ∷ columns_of [] ys
columns_of (x ∷ xs) [] = column x (pos 0) ∷ columns_of xs []
columns_of (x ∷ xs) (y ∷ ys) = column x y ∷ columns_of xs ys
