-- What the call answers, as the meaning has it.
-- Assumes nothing.
use Rattle.std.specs.Prelude.{◌≡◌, Result, Ok, Err}
use Rattle.meaning.specs.Taping as Taping
use Rattle.refusals.specs.declared.Refusal.{Refusal}
use Rattle.refusals.specs.Coded.{coded}
use Rattle.tape.specs.declared.Written.{Written}
use Rattle.tape.specs.declared.Taped.{Taped}

-- a refusal by its number and place, with 0 in every other field
abbrev pub answered : Result Written Refusal → Taping.Taped
answered (Ok t) = record { refusal = 0; place = 0; words = t.words; doublings = t.doublings; additions = t.additions }
answered (Err r) = record { refusal = coded r.reason; place = r.place; words = 0; doublings = 0; additions = 0 }

-- by the struct that C has
abbrev pub taped : Taped → Taping.Taped
taped t = record { refusal = t.refusal; place = t.place; words = t.words; doublings = t.doublings; additions = t.additions }

abbrev pub Answers : Result Written Refusal → Taped → Type 0
Answers a t = taped t ≡ answered a
