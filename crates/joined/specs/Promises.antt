-- What the joint run promises: the meaning's joint run, at the numbers and values of its answer.
-- Assumes nothing.
use Rattle.std.specs.Prelude.{List, ℕ, Result}
use Rattle.meaning.specs.JointRunning.{RunJoint}
use Rattle.refusals.specs.declared.Refusal.{Refusal}
use Rattle.run.specs.declared.Ran.{Ran}
use Rattle.run.specs.Outcomes.{answer}

abbrev pub Promise : (ws : List ℕ) (m g h : ℕ) (entries₀ : List ℕ) (r : Result Ran Refusal) (entries : List ℕ) → Type 0
Promise ws m g h entries₀ r entries = RunJoint ws m g h entries₀ (answer r) entries
