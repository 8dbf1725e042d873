-- What a call of the reader gives, in plain numbers.
-- Assumes nothing.
use Rattle.std.specs.Prelude.{◌≡◌, List, ℕ, ℤ, pos, Option}
use Rattle.meaning.specs.Scalars.{Order}
use Rattle.meaning.specs.Reading.{Holds, sequence, Read, digit, done, read_at}
use Rattle.reader.specs.Calls.{read_of}

-- 1 where there is a digit, and 0 where the reader is done
abbrev pub given : Read → ℕ
given (digit d) = 1
given done = 0

-- the digit, 0 where the reader is done
abbrev pub digit_of : Read → ℤ
digit_of (digit d) = d
digit_of done = pos 0

-- what the code's call gives is told by g and d
pub record Tells (x : Option ℤ) (g : ℕ) (d : ℤ) : Type 0 where
  pub given_is : g ≡ given (read_of x)
  pub digit_is : d ≡ digit_of (read_of x)

-- the number that a reader of w and s, in an order, holds, and what its call after k others gives
pub record Reads (w : ℕ) (o : Order) (s : List ℕ) (k r g : ℕ) (d : ℤ) : Type 0 where
  pub holds : Holds w s r
  pub given_is : g ≡ given (read_at (sequence r w o s) k)
  pub digit_is : d ≡ digit_of (read_at (sequence r w o s) k)
