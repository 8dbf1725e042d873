-- Lines of an input, and what is written for them.
-- Assumes nothing.
use Rattle.std.specs.Prelude.{◌≡◌, cond, List, [], ◌∷◌, ◌++◌, ℕ, eqb}

abbrev pub line_feed : ℕ
line_feed = 10

-- one character more at the front of the first line
abbrev pub longer : ℕ → List (List ℕ) → List (List ℕ)
longer c [] = (c ∷ []) ∷ []
longer c (l ∷ ls) = (c ∷ l) ∷ ls

-- a line ends at a line feed; a last line without one counts if not empty
unfoldable pub lines_of : List ℕ → List (List ℕ)
lines_of [] = []
lines_of (c ∷ cs) = cond (eqb c line_feed) ([] ∷ lines_of cs) (longer c (lines_of cs))

-- whatever relation says what a line is answered: the answers to lines, one behind the other
unfoldable pub Each : (List ℕ → List ℕ → Type 0) → List (List ℕ) → List ℕ → Type 0
Each R [] out = out ≡ []
Each R (l ∷ ls) out = (a : List ℕ) × (b : List ℕ) × R l a × Each R ls b × (out ≡ a ++ b)
