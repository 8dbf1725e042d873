-- Words of a tape: 16 bits that tell the chip a step.
-- Assumes nothing.
use Rattle.std.specs.Prelude.{ℕ, zero, suc, ◌+◌, ◌*◌, ◌/◌, ◌%◌}

-- the most words of a tape
abbrev pub most_words : ℕ
most_words = 1057

-- code in the top four bits, entry e in the low twelve
abbrev pub word : ℕ → ℕ → ℕ
word code e = code * 4096 + e

abbrev pub code_of : ℕ → ℕ
code_of x = x / 4096

abbrev pub entry_of : ℕ → ℕ
entry_of x = x % 4096

-- an entry is taken as it is, or negated
pub data Sign : Type 0 where
  plus : Sign
  minus : Sign

-- what a word says: a double, or a move that carries its entry and sign; bad where it says nothing
pub data Step : Type 0 where
  double : Step
  load : Sign → ℕ → Step
  add : Sign → ℕ → Step
  bad : Step

-- codes: 0 double (the entry is 0), 1 load, 2 load negated, 3 add, 4 subtract
abbrev pub step_by : (code e : ℕ) → Step
step_by zero zero = double
step_by zero (suc e) = bad
step_by (suc zero) e = load plus e
step_by (suc (suc zero)) e = load minus e
step_by (suc (suc (suc zero))) e = add plus e
step_by (suc (suc (suc (suc zero)))) e = add minus e
step_by (suc (suc (suc (suc (suc c))))) e = bad

-- the step of the word x
unfoldable pub step_of : ℕ → Step
step_of x = step_by (code_of x) (entry_of x)

-- and the word of a step: a minus has the code after that of a plus; no code stands for a bad step, whose word has the code 15
abbrev pub signed : Sign → ℕ → ℕ
signed plus code = code
signed minus code = suc code

abbrev pub word_of : Step → ℕ
word_of double = word 0 0
word_of (load s e) = word (signed s 1) e
word_of (add s e) = word (signed s 3) e
word_of bad = word 15 0
