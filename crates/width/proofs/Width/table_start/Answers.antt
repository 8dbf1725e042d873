-- The smallest width's windows start at 0.
use Rattle.std.proofs.Common.{◌+◌, ◌^◌, ◌≤◌, arith}
use lib.Pow.{pow_mono}
use Rattle.laws.proofs.Shifts.{two_shifted}
use Rattle.width.proofs.Widths.{pair_wide}
use Rattle.width.proofs.Width.table_start.Goals as goal

pub overflow_sub-result : goal.overflow_sub-result
overflow_sub-result c =
    let b = c.args.self.bits in
    let wide = pair_wide c.args.self.lawful in
    let least : 2 ^ 3 ≤ 2 ^ (b + 1) = pow_mono {i = 3} {j = b + 1} (omega arith) in
    omega (arith, two_shifted b 64 (omega arith))
