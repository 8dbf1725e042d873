-- Both bytes lie in the scalar, in either order, or the higher one lies above it.
use Rattle.std.proofs.Common.{◌+◌, ◌-◌, length, arith}
use Rattle.meaning.specs.Scalars.{highest_first, lowest_first}
use Rattle.scalar.specs.Orders.{ordered}
use Rattle.scalar.proofs.Bytes.{byte_read, byte_past}
use Rattle.scalar.proofs.pair.Goals as goal

pub returns-then-s-q : goal.returns-then-s-q
returns-then-s-q c =
    let a = c.args in
    omega (arith, c.byte.ensures, byte_past (ordered a.order) a.s.now (λ i. (c.type_inv.s i).fits) (a.q + 1) c.if-s-q.true)

pub returns-in-HighestFirst : goal.returns-in-HighestFirst
returns-in-HighestFirst c =
    let a = c.args in
    let n = length a.s.now in
    let high = byte_read highest_first a.s.now (λ i. (c.type_inv.s i).fits) (a.q + 1) (n - 2 - a.q) c.from.result (omega arith) (omega arith) c.from.ensures in
    let low = byte_read highest_first a.s.now (λ i. (c.type_inv.s i).fits) a.q (n - 2 - a.q + 1) c.from-in-HighestFirst.result (omega arith) (omega arith) c.from-in-HighestFirst.ensures in
    rw c.in-HighestFirst.is (omega (arith, high, low))

pub returns-in-LowestFirst : goal.returns-in-LowestFirst
returns-in-LowestFirst c =
    let a = c.args in
    let high = byte_read lowest_first a.s.now (λ i. (c.type_inv.s i).fits) (a.q + 1) (a.q + 1) c.from-in-LowestFirst.result (omega arith) (omega arith) c.from-in-LowestFirst.ensures in
    let low = byte_read lowest_first a.s.now (λ i. (c.type_inv.s i).fits) a.q a.q c.from-in-LowestFirst-2.result (omega arith) (omega arith) c.from-in-LowestFirst-2.ensures in
    rw c.in-LowestFirst.is (omega (arith, high, low))
