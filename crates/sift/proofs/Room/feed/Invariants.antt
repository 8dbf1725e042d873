-- What is used of the piece is taken in, and the memory is as long as it was.
use Rattle.std.proofs.Common.{length, ◌-◌}
use Rattle.sift.specs.Sifts.{Same}
use Rattle.sift.proofs.Sifting.{Feeding}
use Rattle.sift.proofs.Room.feed.Given as goal

abbrev pub invariant-loop-fed : goal.invariant-loop-fed
invariant-loop-fed l = record {
  same : Same l.fn.self l.self;
  feeding : Feeding l.piece l.fn.line l.kept l.number l.line l.self.out.now l.self.report.now l.fed.used l.fed.kept l.fed.number l.fed.filled l.fed.said;
}

abbrev pub decreases-loop-fed : goal.decreases-loop-fed
decreases-loop-fed l = length l.piece - l.fed.used
