-- A byte of the list, or 0 past it.
use Rattle.std.proofs.Common.{sym}
use Rattle.scalar.specs.Orders.{ordered}
use Rattle.scalar.proofs.Bytes.{byte_read, byte_past}
use Rattle.scalar.proofs.byte.Goals as goal

pub returns-then-q-s : goal.returns-then-q-s
returns-then-q-s c =
    let a = c.args in
    byte_read (ordered a.order) a.s.now (λ i. (c.type_inv.s i).fits) a.q c.index.result c.from.result c.if-q-s.true c.index.ensures.value c.from.ensures

pub returns-else-q-s : goal.returns-else-q-s
returns-else-q-s c = let a = c.args in sym (byte_past (ordered a.order) a.s.now (λ i. (c.type_inv.s i).fits) a.q c.if-q-s.false)
