-- The first digit that is not in the set; there is one.
use Rattle.digits.proofs.Scans.{pass_all}
use Rattle.digits.proofs.lowest_bad.Goals as goal

pub unreachable-requires : goal.unreachable-requires
unreachable-requires c = pass_all c.args.width.largest c.args.digits.now c.loop-i.i c.loop-i.invariant c.loop-i-test.false c.requires
