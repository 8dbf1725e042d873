-- A feed goes on where the last one ended. Assumes nothing.
use Rattle.pipe.proofs.Pouring.{pour_start, pour_more}
use Rattle.pipe.proofs.PipeTaker.pour.Goals as goal

pub loop-at-init : goal.loop-at-init
loop-at-init c =
    let s = c.args.self.now in
    pour_start c.args.piece.now s.line s.kept c.requires.able.2

pub loop-at-preserved : goal.loop-at-preserved
loop-at-preserved c = pour_more c.loop-at.invariant c.loop-at-test.true c.feed-fed.ensures.feeds
