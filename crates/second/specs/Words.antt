-- What the second chip's words lack.
-- Assumes nothing.
use Rattle.std.specs.Prelude.{◌≡◌, ◌⊎◌, ℕ}
use Rattle.meaning.specs.Words.{code_of}

-- the word x is a load negated or a subtraction
abbrev pub Negates : (x : ℕ) → Type 0
Negates x = (code_of x ≡ 2) ⊎ (code_of x ≡ 4)
