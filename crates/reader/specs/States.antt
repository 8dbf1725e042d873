-- A reader's state: how it starts, what a call takes from it, and what it is after so many calls.
-- Assumes nothing.
use Rattle.std.specs.Prelude.{◌≡◌, Bool, cond, ◌&&◌, List, ℕ, zero, suc, ◌+◌, ◌-◌, eqb, leb, ltb, ℤ, pos, Some, None}
use Rattle.meaning.specs.Scalars.{Order, number, code_of, order_of, bit_count, bit, below}
use Rattle.meaning.specs.Digits.{least_width, most_width, most_places}
use Rattle.meaning.specs.Windows.{odd_part}
use Rattle.meaning.specs.Wmof.{window_at, spot}
use Rattle.meaning.specs.Refusals.{granted}
use Rattle.meaning.specs.Reading.{Holds}
use Rattle.reader.specs.declared.State.{State}
use Rattle.reader.specs.declared.Taken.{Taken}

-- ---- the start
-- m places to come, and no window open; b is the order's byte
abbrev pub ready : (r w b m : ℕ) → State
ready r w b m = record { place = m; width = w; pending = pos 0; spot = 0; floor = m; refusal = r; order = b }

-- n + 1 places to come, in a refusal none
abbrev pub starting : (r w : ℕ) (o : Order) → List ℕ → State
starting r w o s = ready r w (code_of o) (granted r (bit_count s + 1))

-- ---- a call
-- the digit at place i of a window whose digit d stands at place p
abbrev pub digit_at : (i : ℕ) → ℤ → (p : ℕ) → ℤ
digit_at i d p = cond (eqb i p) d (pos 0)

-- place i is passed, in a window down to place f
abbrev pub passed : (i : ℕ) → ℤ → (p f : ℕ) → Taken
passed i d p f = record { next = Some (digit_at i d p); place = i; pending = d; spot = p; floor = f }

-- the same where no window is open: none opens where bit i is the bit under it
unfoldable pub opened : (w N i : ℕ) → Taken
opened w N i =
    let v = window_at w N i in
    let none = passed i (pos 0) 0 i in
    let some = passed i (odd_part w v) (spot w i v) (suc i - w) in
    cond (eqb (bit N i) (below N i)) none some

-- a window can open
abbrev pub openable : (m w : ℕ) → Bool
openable m w = ltb 0 m && leb m most_places && leb least_width w && leb w most_width

-- nothing is given, and no place is to come
abbrev pub ended : ℤ → (p f : ℕ) → Taken
ended d p f = record { next = None; place = 0; pending = d; spot = p; floor = f }

-- with m places to come and no window open: where one can open; else done
unfoldable pub fresh : Order → List ℕ → (m w : ℕ) → ℤ → (p f : ℕ) → Taken
fresh o s m w d p f = cond (openable m w) (opened w (number o s) (m - 1)) (ended d p f)

-- with m places to come: inside a window; else where none is open
unfoldable pub taken : Order → List ℕ → (m w : ℕ) → ℤ → (p f : ℕ) → Taken
taken o s m w d p f = cond (ltb f m) (passed (m - 1) d p f) (fresh o s m w d p f)

-- what a call takes from a state
abbrev pub call : List ℕ → State → Taken
call s q = taken (order_of q.order) s q.place q.width q.pending q.spot q.floor

-- and the state after it
abbrev pub moved : State → Taken → State
moved q t = record { place = t.place; width = q.width; pending = t.pending; spot = t.spot; floor = t.floor; refusal = q.refusal; order = q.order }

-- ---- calls
-- the state after k calls
unfoldable pub after : List ℕ → State → ℕ → State
after s q zero = q
after s q (suc k) = moved (after s q k) (call s (after s q k))

-- q is the state of a reader made from w and s, in an order, after k calls
pub record After (w : ℕ) (o : Order) (s : List ℕ) (k : ℕ) (q : State) : Type 0 where
  pub holds : Holds w s q.refusal
  pub state_is : q ≡ after s (starting q.refusal w o s) k
