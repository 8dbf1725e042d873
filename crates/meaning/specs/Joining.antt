-- The joint call: two scalars of equal length to the two rows of their joint sparse form, and the tape of its columns.
-- Assumes nothing.
use Rattle.std.specs.Prelude.{◌≡◌, ◌⊎◌, ◌≢◌, List, [], ◌∷◌, ◌++◌, ℕ, ◌+◌, ◌-◌, ◌<◌, ℤ, length, drop}
use Rattle.meaning.specs.Scalars.{Order, number, bit_count, most_bytes}
use Rattle.meaning.specs.Digits.{weight, top}
use Rattle.meaning.specs.Refusals.{Rule, plain, First}
use Rattle.meaning.specs.Taping.{tape_of}
use Rattle.meaning.specs.Joint.{JointForm, columns_of}

-- ---- refusals
-- the tape of the form of A and B on n + 1 places has more words than there is room for
pub record Overlong (A B n room : ℕ) : Type 0 where
  pub first : List ℤ
  pub second : List ℤ
  pub formed : JointForm A B n first second
  pub over : room < length (tape_of (columns_of first second))

-- 3: either scalar over 66 bytes; 18: unequal scalar lengths; 4: either digit buffer under n + 1 places; 11: tape buffer too short for all its words
abbrev pub joint_rules : Order → (a b : List ℕ) (places others words : ℕ) → List Rule
joint_rules o a b places others words =
    plain 3 ((most_bytes < length a) ⊎ (most_bytes < length b))
    ∷ plain 18 (length a ≢ length b)
    ∷ plain 4 ((places < bit_count a + 1) ⊎ (others < bit_count a + 1))
    ∷ plain 11 (Overlong (number o a) (number o b) (bit_count a) words)
    ∷ []

-- ---- what the call returns and leaves
-- what it answers: the number of a refusal and its place, and on acceptance the nonzero columns, the top, and the tape's counts
pub record Joined : Type 0 where
  pub refusal : ℕ
  pub place : ℕ
  pub columns : ℕ
  pub top : ℕ
  pub words : ℕ
  pub doublings : ℕ
  pub additions : ℕ

-- the buffers of the two rows and of the tape
pub record Buffers : Type 0 where
  pub first : List ℤ
  pub second : List ℤ
  pub words : List ℕ

-- on acceptance: the rows of the form and then what stood past them, and the tape of their columns likewise; the counts are those of the columns
pub record Rowed (o : Order) (a b : List ℕ) (lent : Buffers) (j : Joined) (left : Buffers) : Type 0 where
  pub first : List ℤ
  pub second : List ℤ
  pub formed : JointForm (number o a) (number o b) (bit_count a) first second
  pub first_is : left.first ≡ first ++ drop (bit_count a + 1) lent.first
  pub second_is : left.second ≡ second ++ drop (bit_count a + 1) lent.second
  pub words_are : let tape = tape_of (columns_of first second) in left.words ≡ tape ++ drop (length tape) lent.words
  pub columns_are : j.columns ≡ weight (columns_of first second)
  pub top_is : j.top ≡ top (columns_of first second)
  pub count_is : j.words ≡ length (tape_of (columns_of first second))
  pub doublings_are : j.doublings ≡ top (columns_of first second) - 1
  pub additions_are : j.additions ≡ weight (columns_of first second) - 1

-- in a refusal: 0 in every field, and all three buffers as lent
pub record Unrowed (lent : Buffers) (j : Joined) (left : Buffers) : Type 0 where
  pub left_is : left ≡ lent
  pub columns_are : j.columns ≡ 0
  pub top_is : j.top ≡ 0
  pub count_is : j.words ≡ 0
  pub doublings_are : j.doublings ≡ 0
  pub additions_are : j.additions ≡ 0

-- the call, and the buffers afterwards
pub record Joint (o : Order) (a b : List ℕ) (lent : Buffers) (j : Joined) (left : Buffers) : Type 0 where
  pub rules : First (joint_rules o a b (length lent.first) (length lent.second) (length lent.words)) j.refusal j.place
  pub accepted : j.refusal ≡ 0 → Rowed o a b lent j left
  pub refused : j.refusal ≢ 0 → Unrowed lent j left
