-- The rule is read from the constant.
use Rattle.joint.proofs.Turns.{level_is}
use Rattle.joint.proofs.level.Goals as goal

pub returns : goal.returns
returns c = rw c.from-turned.ensures (level_is c.args.r c.args.s c.requires.0 c.requires.1)
