-- The words passed are walked, and the value is one of the chip's.
use Rattle.run.proofs.Moves.{Going}
use Rattle.run.proofs.reach.Given as goal

abbrev pub invariant-loop-word : goal.invariant-loop-word
invariant-loop-word g l = let chip = g.C.Chip in Going (chip.carrier l.chip) (chip.table l.chip) (chip.Value l.chip) l.words l.state l.word-index
