-- What the run over powers promises: the meaning's, at the numbers and values of its answer.
-- Assumes nothing.
use Rattle.std.specs.Prelude.{List, ℕ, Result}
use Rattle.meaning.specs.Powering.{Powers}
use Rattle.refusals.specs.declared.Refusal.{Refusal}
use Rattle.run.specs.declared.Ran.{Ran}
use Rattle.run.specs.Outcomes.{answer}

abbrev pub Promise : (w l : ℕ) (ws : List ℕ) (m g i : ℕ) (powers₀ inverses₀ : List ℕ) (r : Result Ran Refusal) (powers inverses : List ℕ) → Type 0
Promise w l ws m g i powers₀ inverses₀ r powers inverses = Powers w l ws m g i powers₀ inverses₀ (answer r) powers inverses
