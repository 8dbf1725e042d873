-- A feed goes on where the last one ended. Assumes nothing.
use Rattle.salvage.proofs.Pouring.{pour_start, pour_more}
use Rattle.salvage.proofs.SalvageTaker.pour.Goals as goal

pub loop-at-init : goal.loop-at-init
loop-at-init c =
    let s = c.args.self.now in
    pour_start c.args.piece.now s.line s.kept s.number c.requires.able.2.kept_within

pub loop-at-preserved : goal.loop-at-preserved
loop-at-preserved c = pour_more c.loop-at.invariant c.loop-at-test.true c.feed-fed.ensures.feeds
