-- What the two calls answer, as the meaning has it: the translation's count, and the run's numbers and values.
-- Assumes nothing.
use Rattle.std.specs.Prelude.{◌≡◌, List, ℕ, Result, Ok, Err}
use Rattle.meaning.specs.SecondChip as SecondChip
use Rattle.meaning.specs.SecondChip.{RunSecond}
use Rattle.refusals.specs.declared.Refusal.{Refusal}
use Rattle.refusals.specs.Coded.{coded}
use Rattle.run.specs.declared.Ran.{Ran}
use Rattle.run.specs.Outcomes.{answer}
use Rattle.second.specs.declared.Translated.{Translated}

-- a refusal by its number and place, and 0 words
abbrev pub answered : Result ℕ Refusal → SecondChip.Translated
answered (Ok n) = record { refusal = 0; place = 0; words = n }
answered (Err r) = record { refusal = coded r.reason; place = r.place; words = 0 }

-- by the struct that C has
abbrev pub translated : Translated → SecondChip.Translated
translated t = record { refusal = t.refusal; place = t.place; words = t.words }

abbrev pub Answers : Result ℕ Refusal → Translated → Type 0
Answers a t = translated t ≡ answered a

abbrev pub Promise : (w l : ℕ) (ws : List ℕ) (m g : ℕ) (multiples₀ : List ℕ) (r : Result Ran Refusal) (multiples : List ℕ) → Type 0
Promise w l ws m g multiples₀ r multiples = RunSecond w l ws m g multiples₀ (answer r) multiples
