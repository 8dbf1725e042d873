-- What is used of the piece is taken in, and the memory is as long as it was.
use Rattle.std.proofs.Common.{length, ◌-◌}
use Rattle.meaning.specs.Requests.{Answer}
use Rattle.frames.specs.Told.{version_of}
use Rattle.stream.specs.Streams.{Same}
use Rattle.stream.proofs.Streams.{Feeding}
use Rattle.stream.proofs.Room.feed.Given as goal

abbrev pub invariant-loop-fed : goal.invariant-loop-fed
invariant-loop-fed l = record {
  same : Same l.fn.self l.self;
  feeding : Feeding (Answer (version_of l.version)) l.piece l.fn.line l.kept l.fn.self.out.now l.line l.self.out.now l.fed.used l.fed.kept l.fed.filled;
}

abbrev pub decreases-loop-fed : goal.decreases-loop-fed
decreases-loop-fed l = length l.piece - l.fed.used
