-- Half of the span less one is the largest digit.
use Rattle.width.proofs.Widths.{whole_pair}
use Rattle.wnaf.proofs.Set.whole.Goals as goal

pub invariant_of-result : goal.invariant_of-result
invariant_of-result c = record { pair = rw c.half_span.ensures (whole_pair {w = c.args.w.bits} c.args.w.wide) }
