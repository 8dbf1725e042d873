-- Any line read as bytes to lent memory: which lines are read, and what is left. Assumes nothing.
use Rattle.std.specs.Prelude.{◌≡◌, ◌≢◌, List, ◌++◌, ℕ, ◌%◌, ◌≤◌, T, length, drop}
use Rattle.meaning.specs.Hexadecimal.{all_hex, bytes_of}

-- a line of pairs whose bytes fit so much room
abbrev pub Readable : List ℕ → ℕ → Type 0
Readable line room = (length line % 2 ≢ 1) × T (all_hex line) × (length (bytes_of line) ≤ room)

-- such a line's bytes stand at the front of lent memory, whose rest stands, and r is how many they are; of any other line none are read
pub record Pairs (line bytes₀ : List ℕ) (r : ℕ) (bytes : List ℕ) : Type 0 where
  pub within : r ≤ length bytes
  pub whole : Readable line (length bytes₀) → (r ≡ length (bytes_of line)) × (bytes ≡ bytes_of line ++ drop r bytes₀)
  pub none : (Readable line (length bytes₀) → ⊥) → (r ≡ 0) × (bytes ≡ bytes₀)
