-- What each word needs, and that it takes the walk one step on. Assumes nothing.
use Rattle.std.proofs.Common.{arith}
use Rattle.walk.proofs.Steps.{walks_none, walks_more, walks_all}
use Rattle.run.proofs.Moves.{goes_steady}
use Rattle.run.proofs.reach.Goals as goal

pub step-state-requires : goal.step-state-requires
step-state-requires g c = record { steady = goes_steady c.loop-word.invariant (omega arith) c.requires.few; held = c.requires.held c.loop-word.word-index (omega arith) }

pub loop-word-init : goal.loop-word-init
loop-word-init g c = record { value = c.start.ensures.value; walking = walks_none _ _ _ c.start.ensures.none }

pub loop-word-preserved : goal.loop-word-preserved
loop-word-preserved g c = record { value = c.step-state.ensures.value; walking = walks_more _ _ _ c.loop-word.invariant.walking (omega arith) c.step-state.ensures.stepped }

pub returns : goal.returns
returns g c = walks_all _ _ _ c.loop-word.invariant.walking (omega arith)
