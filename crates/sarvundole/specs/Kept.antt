-- A reader that a caller keeps between calls, and the state that it is.
-- Assumes nothing.
use Rattle.std.specs.Prelude.{◌^◌, ◌<◌}
use Rattle.reader.specs.declared.State.{State}
use Rattle.sarvundole.specs.declared.exported.Reader.{Reader}

-- its state
abbrev pub state_of : Reader → State
state_of r = record { place = r.place; width = r.width; pending = r.pending; spot = r.spot; floor = r.floor; refusal = r.refusal; order = r.order }

-- a state whose places fit
pub record Small (q : State) : Type 0 where
  pub place_fits : q.place < 2 ^ 16
  pub spot_fits : q.spot < 2 ^ 16
  pub floor_fits : q.floor < 2 ^ 16
