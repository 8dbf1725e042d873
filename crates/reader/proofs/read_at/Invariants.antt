-- The turns of `reader::read_at`: before each no window is open, and the state is that of a reader after all but `left` of the calls. Assumes nothing.
use mathlib.Core.Path.{◌≡◌}
use mathlib.Core.List.{List}
use Prim.Native.Nat.{ℕ, ◌-◌, ◌≤◌}
use lib.IntN.{ℤ}
use Rattle.meaning.specs.Scalars.{Order, order_of}
use Rattle.meaning.specs.Digits.{most_places}
use Rattle.scalar.specs.Orders.{ordered}
use Rattle.reader.specs.declared.State.{State}
use Rattle.reader.specs.States.{After}
use Rattle.reader.proofs.read_at.Given as goal

-- a state with no window open
abbrev pub between : (width : ℕ) (d : ℤ) (p refusal code place : ℕ) → State
between width d p refusal code place = record { place = place; width = width; pending = d; spot = p; floor = place; refusal = refusal; order = code }

pub record Between (width : ℕ) (o : Order) (s : List ℕ) (calls refusal place left : ℕ) : Type 0 where
  pub pending : ℤ
  pub spot : ℕ
  pub code : ℕ
  pub tells : order_of code ≡ o
  pub after : After width o s (calls - left) (between width pending spot refusal code place)
  pub few : place ≤ most_places
  pub within : left ≤ calls

abbrev pub invariant-loop-place : goal.invariant-loop-place
invariant-loop-place l = Between l.width (ordered l.order) l.scalar l.calls l.refusal l.place l.left

abbrev pub decreases-loop-place : goal.decreases-loop-place
decreases-loop-place l = l.place
