-- An input that comes piece by piece: the lines that end in a piece, what has come of the line that has not ended, how much of it is kept, and what a cut is.
-- Assumes nothing.
use Rattle.std.specs.Prelude.{◌≡◌, cond, List, [], ◌∷◌, ◌++◌, ℕ, ◌<◌, ◌≤◌, eqb, length, take}
use Rattle.meaning.specs.Lines.{line_feed}
use Rattle.cutter.specs.declared.Cut.{Cut}
use Rattle.cutter.specs.declared.Cut.TheVariants.{GoesOn, Ends}

-- ---- lines
-- the lines that end in a piece, where p has come of the first
unfoldable pub ended : (p piece : List ℕ) → List (List ℕ)
ended p [] = []
ended p (c ∷ cs) = cond (eqb c line_feed) (p ∷ ended [] cs) (ended (p ++ (c ∷ [])) cs)

-- and what has come of the line that has not ended
unfoldable pub begun : (p piece : List ℕ) → List ℕ
begun p [] = p
begun p (c ∷ cs) = cond (eqb c line_feed) (begun [] cs) (begun (p ++ (c ∷ [])) cs)

-- at the end of the input it counts if not empty
abbrev pub last : List ℕ → List (List ℕ)
last [] = []
last (c ∷ cs) = (c ∷ cs) ∷ []

-- ---- what is kept
-- of a line of which p has come, the first characters stand in lent memory, as many as it has room for
pub record Keeps (p line : List ℕ) (kept : ℕ) : Type 0 where
  pub count_is : kept ≡ length (take (length line) p)
  pub front_is : take kept line ≡ take (length line) p

-- characters of one line more
pub record Keeping (characters line₀ : List ℕ) (kept₀ : ℕ) (line : List ℕ) (kept : ℕ) : Type 0 where
  pub within : kept ≤ length line
  pub keeps : (p : List ℕ) → Keeps p line₀ kept₀ → Keeps (p ++ characters) line kept

-- ---- a cut
-- a text after p in which no line ends
pub record Open (p text line : List ℕ) (kept : ℕ) : Type 0 where
  pub none : ended p text ≡ []
  pub keeps : Keeps (begun p text) line kept

-- one in which one line ends, and which ends with it
pub record Closed (p text line : List ℕ) (kept : ℕ) : Type 0 where
  pub whole : List ℕ
  pub one : ended p text ≡ whole ∷ []
  pub rest : begun p text ≡ []
  pub keeps : Keeps whole line kept

-- all of a piece is of the first kind
pub record GoneOn (piece line₀ : List ℕ) (kept₀ kept : ℕ) (line : List ℕ) : Type 0 where
  pub kept_within : kept ≤ length line
  pub goes_on : (p : List ℕ) → Keeps p line₀ kept₀ → Open p piece line kept

-- what is used of it is of the second
pub record Ended (piece line₀ : List ℕ) (kept₀ used kept : ℕ) (line : List ℕ) : Type 0 where
  pub moves : 0 < used
  pub used_within : used ≤ length piece
  pub kept_within : kept ≤ length line
  pub ends : (p : List ℕ) → Keeps p line₀ kept₀ → Closed p (take used piece) line kept

abbrev pub Cuts : (piece line₀ : List ℕ) (kept₀ : ℕ) → Cut → List ℕ → Type 0
Cuts piece line₀ kept₀ (GoesOn kept) line = GoneOn piece line₀ kept₀ kept line
Cuts piece line₀ kept₀ (Ends used kept) line = Ended piece line₀ kept₀ used kept line
