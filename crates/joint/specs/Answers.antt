-- What the call answers, as the meaning has it: by the counts or the refusal, and by the struct that C has.
-- Assumes nothing.
use Rattle.std.specs.Prelude.{◌≡◌, Result, Ok, Err}
use Rattle.meaning.specs.Joining as Joining
use Rattle.refusals.specs.declared.Refusal.{Refusal}
use Rattle.refusals.specs.Coded.{coded}
use Rattle.joint.specs.declared.Planned.{Planned}
use Rattle.joint.specs.declared.Joined.{Joined}

abbrev pub answered : Result Planned Refusal → Joining.Joined
answered (Ok p) = record { refusal = 0; place = 0; columns = p.columns; top = p.top; words = p.words; doublings = p.doublings; additions = p.additions }
answered (Err r) = record { refusal = coded r.reason; place = r.place; columns = 0; top = 0; words = 0; doublings = 0; additions = 0 }

abbrev pub joined : Joined → Joining.Joined
joined j = record { refusal = j.refusal; place = j.place; columns = j.columns; top = j.top; words = j.words; doublings = j.doublings; additions = j.additions }

-- the struct tells what was answered
abbrev pub Answers : Result Planned Refusal → Joined → Type 0
Answers a j = joined j ≡ answered a
