-- A chip's steps: the table that a list of multiples holds, and what a word and a state need.
-- Assumes nothing.
use Rattle.std.specs.Prelude.{◌≡◌, List, ℕ, ◌<◌, length, get_or}
use Rattle.meaning.specs.Words.{most_words, code_of, entry_of}
use Rattle.meaning.specs.Walks.{Table}
use Rattle.walk.specs.Residues.{negatable}
use Rattle.run.specs.declared.State.{State}

-- the multiple at entry e
abbrev pub entry_in : List ℕ → ℕ → ℕ
entry_in multiples e = get_or multiples e 0

-- the table that the list holds, modulo m
abbrev pub table_of : (m : ℕ) → List ℕ → Table ℕ
table_of m multiples = negatable m (entry_in multiples)

-- entry e is there, and a residue
pub record HasResidue (m : ℕ) (multiples : List ℕ) (e : ℕ) : Type 0 where
  pub within : e < length multiples
  pub reduced : entry_in multiples e < m

-- ---- over any chip
-- the word x can be taken: its entry is there, and a double has none
pub record Held (Entry : ℕ → Type 0) (x : ℕ) : Type 0 where
  pub entry : Entry (entry_of x)
  pub double : code_of x ≡ 0 → entry_of x ≡ 0

-- a value, and counts that leave room for one more word
pub record Steady (Value : ℕ → Type 0) (s : State) : Type 0 where
  pub value : Value s.value
  pub doublings_few : s.doublings < most_words
  pub additions_few : s.additions < most_words
