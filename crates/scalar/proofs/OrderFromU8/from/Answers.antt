-- 0 tells highest first, anything else lowest first.
use Rattle.scalar.proofs.Orders.{nought, other}
use Rattle.scalar.proofs.OrderFromU8.from.Goals as goal

pub returns-then-byte-eq0 : goal.returns-then-byte-eq0
returns-then-byte-eq0 c = nought c.if-byte-eq0.true

pub returns-else-byte-eq0 : goal.returns-else-byte-eq0
returns-else-byte-eq0 c = other c.args.byte c.if-byte-eq0.false
