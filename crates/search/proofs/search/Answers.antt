use Rattle.std.proofs.Common.{arith}
use Rattle.search.proofs.Refusals.{accepts}
use Rattle.search.proofs.search.Goals as goal

pub returns : goal.returns
returns c =
    let is = rw c.in_ok-known.ensures.ok_part at c.known.ensures in
    accepts _ _ (omega (arith, is.2.0)) (omega arith) (omega arith) (rw (← is.0) c.least.ensures)
