-- Of a part that goes on to the top, or above the string.
use Rattle.std.proofs.Common.{arith}
use Rattle.judge.proofs.Levels.{stretch_above}
use Rattle.judge.proofs.eight.Goals as goal

pub returns : goal.returns
returns c = stretch_above c.args.digits.now c.args.i (omega arith)
