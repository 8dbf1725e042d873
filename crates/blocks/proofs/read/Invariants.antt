-- So many blocks are taken as the loop counts.
use Rattle.blocks.proofs.read.Given as goal

abbrev pub invariant-loop : goal.invariant-loop
invariant-loop g l = g.T.Taker.ready l.counter l.taker
