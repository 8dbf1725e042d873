-- What one call of a reader does to its state, in plain numbers.
-- Assumes nothing.
use Rattle.std.specs.Prelude.{◌≡◌, List, ℕ, suc, ℤ}
use Rattle.meaning.specs.Scalars.{Order}
use Rattle.meaning.specs.Reading.{sequence, read_at}
use Rattle.reader.specs.declared.State.{State}
use Rattle.reader.specs.States.{call, moved, After}
use Rattle.reader.specs.Calls.{read_of}
use Rattle.sarvundole.specs.Reads.{given, digit_of}

-- from any state before: what the call gives, and the state after it. From a state that was made from w and s, in an order, and called k times it gives the sequence's digit at
-- k, and the state has then been called once more
pub record Steps (s : List ℕ) (before after : State) (g : ℕ) (d : ℤ) : Type 0 where
  pub given_is : g ≡ given (read_of (call s before).next)
  pub digit_is : d ≡ digit_of (read_of (call s before).next)
  pub after_is : after ≡ moved before (call s before)
  pub reads_given : (w : ℕ) (o : Order) (k : ℕ) → After w o s k before → g ≡ given (read_at (sequence before.refusal w o s) k)
  pub reads_digit : (w : ℕ) (o : Order) (k : ℕ) → After w o s k before → d ≡ digit_of (read_at (sequence before.refusal w o s) k)
  pub counts : (w : ℕ) (o : Order) (k : ℕ) → After w o s k before → After w o s (suc k) after
