-- One place of the joint sparse form by bits and carries, and what the counting pass finds.
-- Assumes nothing.
use Rattle.std.specs.Prelude.{◌≡◌, List, ◌++◌, ℕ, zero, suc, ◌+◌, ◌/◌, ◌^◌, ◌≤◌, ℤ, pos, negsuc, length, drop}
use Rattle.meaning.specs.Scalars.{number, bit_count}
use Rattle.meaning.specs.Digits.{weight, top}
use Rattle.meaning.specs.Taping.{tape_of}
use Rattle.meaning.specs.Joint.{columns_of}
use Rattle.pairs.specs.Columns.{fst, snd, val, row, dig_n, next_n, jsf_n}
use Rattle.digits.specs.declared.Count.{Count}
use Rattle.scalar.specs.Orders.{ordered}
use Rattle.joint.specs.declared.scalars.Scalars.{Scalars}
use Rattle.joint.specs.declared.Turn.{Turn}

-- the numbers of two scalars, and how many bits the first has
abbrev pub first_of : Scalars → ℕ
first_of s = number (ordered s.order) s.a.now

abbrev pub second_of : Scalars → ℕ
second_of s = number (ordered s.order) s.b.now

abbrev pub bits_of : Scalars → ℕ
bits_of s = bit_count s.a.now

-- a digit by its level, which is 1 more than it
abbrev pub levelled : ℕ → ℤ
levelled zero = negsuc 0
levelled (suc zero) = pos 0
levelled (suc (suc v)) = pos 1

-- the side of nought that a digit lies on, and 1 for nought itself
abbrev pub side_of : ℤ → ℕ
side_of (negsuc n) = 0
side_of (pos zero) = 1
side_of (pos (suc n)) = 2

-- what remains of N at place i with the carry c
abbrev pub remains : (N i c : ℕ) → ℕ
remains N i c = N / 2 ^ i + c

-- the digits at place i, where A with the carry c and B with the carry d remain, and the carries that go on
pub record Placed (A B i c d : ℕ) (t : Turn) : Type 0 where
  pub first_is : t.first ≡ val (dig_n (remains A i c) (remains B i d))
  pub second_is : t.second ≡ val (dig_n (remains B i d) (remains A i c))
  pub carry_is : next_n (remains A i c) (remains B i d) ≡ remains A (suc i) t.carry
  pub other_is : next_n (remains B i d) (remains A i c) ≡ remains B (suc i) t.other
  pub carry_few : t.carry ≤ 1
  pub other_few : t.other ≤ 1

-- the columns of the form of A and B on n + 1 places, as one string
abbrev pub columns_in : (A B n : ℕ) → List ℤ
columns_in A B n = columns_of (row fst (jsf_n (suc n) A B)) (row snd (jsf_n (suc n) A B))

-- the number of nonzero columns, and their top
pub record Weighed (A B n : ℕ) (c : Count) : Type 0 where
  pub weight_is : c.weight ≡ weight (columns_in A B n)
  pub top_is : c.top ≡ top (columns_in A B n)

-- the top is known, and there is room for their words
pub record Room (A B n high room : ℕ) : Type 0 where
  pub top_is : high ≡ top (columns_in A B n)
  pub enough : length (tape_of (columns_in A B n)) ≤ room

-- the rows and the words are written
pub record Written (A B n : ℕ) (first second : List ℤ) (words₀ words : List ℕ) : Type 0 where
  pub first_is : first ≡ row fst (jsf_n (suc n) A B)
  pub second_is : second ≡ row snd (jsf_n (suc n) A B)
  pub words_are : words ≡ tape_of (columns_in A B n) ++ drop (length (tape_of (columns_in A B n))) words₀
