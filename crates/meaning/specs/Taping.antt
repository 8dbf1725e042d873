-- Tapes: the steps that a string's digits ask of the chip, as words.
-- Assumes nothing.
use Rattle.std.specs.Prelude.{◌≡◌, List, [], ◌∷◌, ◌++◌, ℕ, zero, suc, ◌-◌, ◌/◌, ◌<◌, ℤ, pos, negsuc, nat_abs, length, drop}
use Rattle.meaning.specs.Digits.{weight, top}
use Rattle.meaning.specs.Refusals.{Rule, plain, First, granted, kept, set_rules}
use Rattle.meaning.specs.Checking.{long_string, bad_digit}
use Rattle.meaning.specs.Words.{Sign, plus, minus, Step, double, load, add, word_of}

-- ---- the tape of a string
-- the digit d has the entry (|d| - 1) / 2, and a sign
abbrev pub entry : ℤ → ℕ
entry d = (nat_abs d - 1) / 2

abbrev pub sign_of : ℤ → Sign
sign_of (pos n) = plus
sign_of (negsuc n) = minus

-- the words of a digit, by a load or an addition: none for 0
unfoldable pub moves : (Sign → ℕ → Step) → ℤ → List ℕ
moves move (pos zero) = []
moves move (pos (suc n)) = word_of (move plus (entry (pos (suc n)))) ∷ []
moves move (negsuc n) = word_of (move minus (entry (negsuc n))) ∷ []

-- one place further down: the highest nonzero digit gives a load; each lower place a double, and an add or subtract if its digit is nonzero
unfoldable pub down : List ℕ → ℤ → List ℕ
down [] d = moves load d
down (x ∷ xs) d = (x ∷ xs) ++ (word_of double ∷ moves add d)

-- from the highest place; a zero string gives no words
unfoldable pub tape_of : List ℤ → List ℕ
tape_of [] = []
tape_of (d ∷ ds) = down (tape_of ds) d

-- ---- the call
-- after those of the set 7, 8, then 11: tape buffer too short for all its words
abbrev pub room_rules : (m : ℕ) (ds : List ℤ) (room : ℕ) → List Rule
room_rules m ds room = long_string ds ∷ bad_digit m ds ∷ plain 11 (room < length (tape_of ds)) ∷ []

abbrev pub tape_rules : (w m : ℕ) (ds : List ℤ) (room : ℕ) → List Rule
tape_rules w m ds room = set_rules w m ++ room_rules m ds room

-- what it answers
pub record Taped : Type 0 where
  pub refusal : ℕ
  pub place : ℕ
  pub words : ℕ
  pub doublings : ℕ
  pub additions : ℕ

-- by these rules: word count, doublings (top - 1, or 0), additions (weight - 1, or 0), and the buffer: no word beyond the count is written
pub record TapeBy (rules : List Rule) (ds : List ℤ) (words₀ : List ℕ) (a : Taped) (words : List ℕ) : Type 0 where
  pub first : First rules a.refusal a.place
  pub count_is : a.words ≡ granted a.refusal (length (tape_of ds))
  pub doublings_are : a.doublings ≡ granted a.refusal (top ds - 1)
  pub additions_are : a.additions ≡ granted a.refusal (weight ds - 1)
  pub words_are : words ≡ kept a.refusal (tape_of ds ++ drop (length (tape_of ds)) words₀) words₀

abbrev pub Tape : (w m : ℕ) (ds : List ℤ) (words₀ : List ℕ) (a : Taped) (words : List ℕ) → Type 0
Tape w m ds words₀ a words = TapeBy (tape_rules w m ds (length words₀)) ds words₀ a words
