-- What the calls of a reader promise: the number that it holds, and what each call gives, in the words of document 01.
-- Assumes nothing.
use Rattle.std.specs.Prelude.{◌≡◌, List, ℕ, suc, ◌-◌, ℤ, Option, Some, None}
use Rattle.std.specs.Borrow.{Bor}
use Rattle.meaning.specs.Scalars.{Order}
use Rattle.meaning.specs.Reading.{Holds, sequence, Read, digit, done, read_at}
use Rattle.reader.specs.declared.Reader.{Reader}
use Rattle.reader.specs.declared.Reading.{Reading}
use Rattle.reader.specs.States.{digit_at, opened, call, moved, After}

-- what a call gives, as document 01's
abbrev pub read_of : Option ℤ → Read
read_of (Some d) = digit d
read_of None = done

-- `new`: the scalar that was lent, and the state before any call
pub record Made (w : ℕ) (o : Order) (s : Bor (List ℕ)) (r : Reader) : Type 0 where
  pub scalar_is : r.scalar ≡ s
  pub state_is : After w o s.now 0 r.state

-- `next`: what the call takes from any reader, and that reader after it. One that was made from w and an order and called k times gives its sequence's digit at k, and
-- has then been called once more
pub record Called (before after : Reader) (r : Option ℤ) : Type 0 where
  pub next_is : r ≡ (call before.scalar.now before.state).next
  pub after_is : after ≡ record { scalar = before.scalar; state = moved before.state (call before.scalar.now before.state) }
  pub reads : (w : ℕ) (o : Order) (k : ℕ) → After w o before.scalar.now k before.state → read_of r ≡ read_at (sequence before.state.refusal w o before.scalar.now) k
  pub counts : (w : ℕ) (o : Order) (k : ℕ) → After w o before.scalar.now k before.state → After w o before.scalar.now (suc k) after.state

-- the digit so many places under the m to come, in the window that opens there
abbrev pub Inside : (w N m under : ℕ) → ℤ → Type 0
Inside w N m under r = let t = opened w N (m - 1) in r ≡ digit_at (m - 1 - under) t.pending t.spot

-- `read_at`: the number that a reader of w and s, in an order, holds, and what its call after k others gives
pub record Answered (w : ℕ) (o : Order) (s : List ℕ) (k : ℕ) (r : Reading) : Type 0 where
  pub holds : Holds w s r.refusal
  pub gives : read_of r.next ≡ read_at (sequence r.refusal w o s) k
