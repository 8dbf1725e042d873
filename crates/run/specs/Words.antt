-- Words judged one by one.
-- Assumes nothing.
use Rattle.std.specs.Prelude.{List, ℕ, ◌<◌, length, get_or, Option, MatchOption}

-- the words before index r are right each at its index, and the word at r is not
pub record FirstWrong (Right : (i word : ℕ) → Type 0) (ws : List ℕ) (r : ℕ) : Type 0 where
  pub within : r < length ws
  pub before : (i : ℕ) → i < r → Right i (get_or ws i 0)
  pub here : Right r (get_or ws r 0) → ⊥

-- all words are right each at its index, or the first that is not stands at the index found
abbrev pub Sifted : (Right : (i word : ℕ) → Type 0) → List ℕ → Option ℕ → Type 0
Sifted Right ws r = MatchOption r ((i : ℕ) → i < length ws → Right i (get_or ws i 0)) (FirstWrong Right ws)
