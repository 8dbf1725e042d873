-- What is answered, as the meaning has it: by the part or the refusal, and by the struct that C has.
-- Assumes nothing.
use Rattle.std.specs.Prelude.{◌≡◌, ℕ, Result, Ok, Err}
use Rattle.meaning.specs.Lighter as Lighter
use Rattle.refusals.specs.declared.Reason.{Reason}
use Rattle.refusals.specs.Coded.{coded}
use Rattle.lighter.specs.declared.Which.{Which}
use Rattle.lighter.specs.declared.Which.TheVariants.{First, Second}
use Rattle.lighter.specs.declared.Part.{Part}
use Rattle.lighter.specs.declared.Picked.{Picked}

-- the number of a string
abbrev pub numbered : Which → ℕ
numbered First = 0
numbered Second = 1

abbrev pub answered : Result Part Reason → Lighter.Picked
answered (Ok p) = record { refusal = 0; which = numbered p.which; places = p.places }
answered (Err r) = record { refusal = coded r; which = 0; places = 0 }

abbrev pub picked : Picked → Lighter.Picked
picked p = record { refusal = p.refusal; which = p.which; places = p.places }

-- the struct tells what was answered
abbrev pub Answers : Result Part Reason → Picked → Type 0
Answers a p = picked p ≡ answered a
