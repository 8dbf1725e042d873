-- The chip over two lent buffers of powers: the table that they hold, and the entries that are there.
-- Assumes nothing.
use Rattle.std.specs.Prelude.{List, ℕ, ◌<◌, length, get_or}
use Rattle.meaning.specs.Walks.{Table, by_sign}

-- the table that two buffers hold
abbrev pub lent : (powers inverses : List ℕ) → Table ℕ
lent powers inverses = by_sign (λ e. get_or powers e 0) (λ e. get_or inverses e 0)

-- entry e is there in both
pub record HasPowers (powers inverses : List ℕ) (e : ℕ) : Type 0 where
  pub within : e < length powers
  pub within_inverse : e < length inverses
