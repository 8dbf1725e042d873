-- 1 for a digit that is not 0.
use Rattle.std.proofs.Common.{◌∙◌}
use Rattle.digits.proofs.Scans.{told_nonzero}
use Rattle.digits.proofs.counted.Goals as goal

pub returns : goal.returns
returns c = c.from.ensures ∙ told_nonzero c.args.digit c.ranges.digit
