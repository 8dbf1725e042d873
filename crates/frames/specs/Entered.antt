-- What one place of a string adds to a line of version 2.
-- Assumes nothing.
use Rattle.std.specs.Prelude.{◌≡◌, List, [], ◌∷◌, ℕ, ◌+◌, ◌*◌, ℤ}
use Rattle.std.proofs.lemmas.List.Edits.{sets}
use Rattle.meaning.specs.Digits.{nonzero}
use Rattle.meaning.specs.Hexadecimal.{written}
use Rattle.meaning.specs.Frames.{entries_from, entry_bytes}

-- the digit's entry, where it has one, is stored from index `at` on, and `next` is the index after it
pub record Entered (d : ℤ) (place at : ℕ) (out₀ : List ℕ) (next : ℕ) (out : List ℕ) : Type 0 where
  pub next_is : next ≡ at + 6 * nonzero d
  pub out_is : out ≡ sets out₀ at (written (entry_bytes (entries_from place (d ∷ []))))
