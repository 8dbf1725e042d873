-- What the call answers, as the meaning has it: by the choice or the reason, and by the struct that C has.
-- Assumes nothing.
use Rattle.std.specs.Prelude.{◌≡◌, Result, Ok, Err}
use Rattle.meaning.specs.Choosing as Choosing
use Rattle.refusals.specs.declared.Reason.{Reason}
use Rattle.refusals.specs.Coded.{coded}
use Rattle.choice.specs.declared.Choice.{Choice}
use Rattle.choice.specs.declared.Chosen.{Chosen}

abbrev pub chosen : Result Choice Reason → Choosing.Choice
chosen (Ok c) = record { refusal = 0; width = c.width; total = c.total }
chosen (Err reason) = record { refusal = coded reason; width = 0; total = 0 }

abbrev pub told : Chosen → Choosing.Choice
told c = record { refusal = c.refusal; width = c.width; total = c.total }

-- the struct tells what was answered
abbrev pub Answers : Result Choice Reason → Chosen → Type 0
Answers a c = told c ≡ chosen a
