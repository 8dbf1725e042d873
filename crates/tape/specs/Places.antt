-- What one place of a string adds to the words.
-- Assumes nothing.
use Rattle.std.specs.Prelude.{◌≡◌, ◌≢◌, List, [], ◌∷◌, ℕ, ◌+◌, ℤ, pos, set}
use Rattle.meaning.specs.Digits.{nonzero}
use Rattle.meaning.specs.Words.{double, add, word_of}
use Rattle.meaning.specs.Taping.{moves}

-- a double is stored at index `at` and a word after it, which is the digit's addition where it has one; `next` is the index after them
pub record Lowered (d : ℤ) (at : ℕ) (words₀ : List ℕ) (next : ℕ) (words : List ℕ) : Type 0 where
  pub next_is : next ≡ at + 1 + nonzero d
  pub after : ℕ
  pub after_is : d ≢ pos 0 → moves add d ≡ after ∷ []
  pub words_are : words ≡ set (set words₀ at (word_of double)) (at + 1) after
