-- The run's answer in plain fields, as the meaning has it.
-- Assumes nothing.
use Rattle.std.specs.Prelude.{◌≡◌, Result}
use Rattle.meaning.specs.Running as Running
use Rattle.refusals.specs.declared.Refusal.{Refusal}
use Rattle.run.specs.declared.Ran as Run
use Rattle.run.specs.Outcomes.{costed, answer}
use Rattle.sarvundole.specs.declared.exported.Ran.{Ran}

abbrev pub ran : Ran → Running.Ran
ran r = record { refusal = r.refusal; place = r.place; residue = r.residue; doublings = r.doublings; additions = r.additions; cost = costed r.cost }

-- the struct tells what was answered
abbrev pub Answers : Result Run.Ran Refusal → Ran → Type 0
Answers a r = ran r ≡ answer a
