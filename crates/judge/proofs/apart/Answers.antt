-- A pair that is too near has a gap that was looked at.
use Rattle.std.proofs.Common.{arith}
use Rattle.judge.proofs.Spaces.{clear_apart}
use Rattle.judge.proofs.apart.Goals as goal

pub returns : goal.returns
returns c = λ _. clear_apart c.args.w c.args.digits.now (λ g l. c.loop-gap.invariant g (omega arith))
