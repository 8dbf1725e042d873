-- A step goes on where the last one ended. Assumes nothing.
use Rattle.meaning.specs.Requests.{Answer}
use Rattle.frames.specs.Told.{version_of}
use Rattle.stream.proofs.Streams.{feed_none, feed_more}
use Rattle.stream.proofs.Answering.{same_start, same_more}
use Rattle.stream.proofs.Room.feed.Goals as goal

pub loop-fed-init : goal.loop-fed-init
loop-fed-init c =
    let a = c.args in
    record {
      same = same_start a.self.now;
      feeding = feed_none (Answer (version_of a.version)) a.piece.now a.line.now a.kept a.self.now.out.now c.requires.kept_in_bounds.0;
    }

pub loop-fed-preserved : goal.loop-fed-preserved
loop-fed-preserved c =
    let i = c.loop-fed.invariant in
    record {
      same = same_more i.same c.step-next.ensures.same;
      feeding = feed_more (Answer (version_of c.args.version)) i.feeding c.loop-fed-test.true c.step-next.ensures.stepped;
    }
