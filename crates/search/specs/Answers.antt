-- What the call answers, as the meaning has it: by the weight or the reason, and by the struct that C has.
-- Assumes nothing.
use Rattle.std.specs.Prelude.{◌≡◌, ℕ, Result, Ok, Err}
use Rattle.meaning.specs.Searching as Searching
use Rattle.refusals.specs.declared.Reason.{Reason}
use Rattle.refusals.specs.Coded.{coded}
use Rattle.search.specs.declared.Searched.{Searched}

abbrev pub searched : Result ℕ Reason → Searching.Searched
searched (Ok weight) = record { refusal = 0; weight = weight }
searched (Err reason) = record { refusal = coded reason; weight = 0 }

abbrev pub told : Searched → Searching.Searched
told s = record { refusal = s.refusal; weight = s.weight }

-- the struct tells what was answered
abbrev pub Answers : Result ℕ Reason → Searched → Type 0
Answers a s = told s ≡ searched a
