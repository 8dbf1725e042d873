-- A byte from the smallest width to the largest makes the set of that whole width.
use Rattle.std.proofs.Common.{arith, ◌-◌}
use Rattle.laws.proofs.Shifts.{one_shifted}
use Rattle.width.proofs.Widths.{whole_pair}
use Rattle.width.proofs.Width.known.Goals as goal

pub invariant_of-result : goal.invariant_of-result
invariant_of-result c = record { lawful = rw (one_shifted (c.args.byte - 1) 8 (omega arith)) (whole_pair (omega arith, omega arith)) }
