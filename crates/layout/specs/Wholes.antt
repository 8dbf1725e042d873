-- Frames from outside: the length of a written line, and what is known of one that is read before its places, its digits and its fields are held against each other.
-- Assumes nothing.
use Rattle.std.specs.Prelude.{◌≡◌, true, false, List, ℕ, ◌+◌, ◌*◌, ◌-◌, ◌%◌, ◌≤◌, ℤ, length, get_or}
use Rattle.meaning.specs.Digits.{weight}
use Rattle.meaning.specs.Hexadecimal.{in_pairs, bytes_of}
use Rattle.meaning.specs.Frames.{Version, version1, version2, is_sparse, stated}

-- the characters of the line of a string
abbrev pub line_length : Version → List ℤ → ℕ
line_length version1 ds = 10 + 2 * length ds
line_length version2 ds = 14 + 6 * weight ds

-- a frame of version 1 whose fields are there
pub record PlainFrame (line : List ℕ) : Type 0 where
  pub pairs : in_pairs line ≡ true
  pub unstated : stated line ≡ 0
  pub plain : is_sparse (bytes_of line) ≡ false
  pub opens : get_or (bytes_of line) 0 0 ≡ 0
  pub long : 5 ≤ length (bytes_of line)

-- a frame of version 2 whose fields are there and whose entries are whole
pub record SparseFrame (line : List ℕ) : Type 0 where
  pub pairs : in_pairs line ≡ true
  pub unstated : stated line ≡ 0
  pub sparse : is_sparse (bytes_of line) ≡ true
  pub long : 7 ≤ length (bytes_of line)
  pub whole : (length (bytes_of line) - 7) % 3 ≡ 0

abbrev pub WholeFrame : Version → List ℕ → Type 0
WholeFrame version1 line = PlainFrame line
WholeFrame version2 line = SparseFrame line
