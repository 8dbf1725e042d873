-- Text that is put into lent memory. Assumes nothing.
use Rattle.std.specs.Prelude.{◌≡◌, List, ℕ, ◌+◌, ◌≤◌, length}
use Rattle.std.proofs.lemmas.List.Edits.{sets}

-- the text is put into the memory: it stands from the index `at` on, r is the index after it, and all else stands as it stood
pub record Puts (text : List ℕ) (at : ℕ) (out₀ : List ℕ) (r : ℕ) (out : List ℕ) : Type 0 where
  pub within : r ≤ length out
  pub end_is : r ≡ at + length text
  pub out_is : out ≡ sets out₀ at text

-- the most characters of a remark, its line feed counted: two numbers of 20 each, and nine between them
abbrev pub most_remark : ℕ
most_remark = 50
