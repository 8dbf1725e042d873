-- What recode and the checks answer, as the meaning has it: by the counts or the refusal, and by the struct that C has.
-- Assumes nothing.
use Rattle.std.specs.Prelude.{◌≡◌, Result, Ok, Err}
use Rattle.meaning.specs.Digits as Digits
use Rattle.refusals.specs.declared.Refusal.{Refusal}
use Rattle.refusals.specs.Coded.{coded}
use Rattle.digits.specs.declared.Accepted.{Accepted}
use Rattle.digits.specs.declared.Tally.{Tally}

abbrev pub answered : Result Accepted Refusal → Digits.Tally
answered (Ok a) = record { refusal = 0; place = 0; weight = a.weight; top = a.top }
answered (Err r) = record { refusal = coded r.reason; place = r.place; weight = 0; top = 0 }

abbrev pub told : Tally → Digits.Tally
told t = record { refusal = t.refusal; place = t.place; weight = t.weight; top = t.top }

-- the struct tells what was answered
abbrev pub Answers : Result Accepted Refusal → Tally → Type 0
Answers a t = told t ≡ answered a
