-- A step goes on where the last one ended. Assumes nothing.
use Rattle.sift.proofs.Sifting.{same_start, same_more, feed_none, feed_more}
use Rattle.sift.proofs.Room.feed.Goals as goal

pub loop-fed-init : goal.loop-fed-init
loop-fed-init c =
    let a = c.args in
    record { same = same_start a.self.now; feeding = feed_none a.piece.now a.line.now a.kept a.number a.self.now.out.now a.self.now.report.now c.requires.kept_in_bounds.0 }

pub loop-fed-preserved : goal.loop-fed-preserved
loop-fed-preserved c =
    let i = c.loop-fed.invariant in
    let s = c.step-next.ensures in
    record { same = same_more i.same s.same; feeding = feed_more i.feeding c.loop-fed-test.true s.stepped }
