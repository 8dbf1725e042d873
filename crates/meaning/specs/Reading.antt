-- The reader: wMOF one digit a call, places n down to 0, then done at every later call.
-- Assumes nothing.
use Rattle.std.specs.Prelude.{List, [], ◌∷◌, reverse, ℕ, zero, suc, ℤ}
use Rattle.meaning.specs.Scalars.{Order, number, bit_count}
use Rattle.meaning.specs.Wmof.{wmof}
use Rattle.meaning.specs.Refusals.{Rule, First, kept, bad_width, long_scalar}

-- the rules of making one: 2, 3
abbrev pub reader_rules : (w : ℕ) (s : List ℕ) → List Rule
reader_rules w s = bad_width w ∷ long_scalar s ∷ []

-- a reader made from w and s, in any order, holds the number r
abbrev pub Holds : (w : ℕ) (s : List ℕ) (r : ℕ) → Type 0
Holds w s r = First (reader_rules w s) r 0

-- its whole sequence is form 3's string from the top; made from refused input it has none
abbrev pub sequence : (r w : ℕ) (o : Order) (s : List ℕ) → List ℤ
sequence r w o s = kept r (reverse (wmof w (number o s) (bit_count s))) []

-- what a call gives
pub data Read : Type 0 where
  digit : ℤ → Read
  done : Read

-- what the call after k others gives, where the sequence is ds
unfoldable pub read_at : List ℤ → ℕ → Read
read_at [] k = done
read_at (d ∷ ds) zero = digit d
read_at (d ∷ ds) (suc k) = read_at ds k
