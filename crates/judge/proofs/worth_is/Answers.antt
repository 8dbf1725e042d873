-- Eight places more, and the end: nothing stands above, and nothing may be carried.
use Rattle.std.proofs.Common.{arith}
use native.Mathlib.Nat.{lt_of_lt_of_le}
use lib.Pow.{pow_mono}
use Rattle.meaning.specs.Scalars.{number}
use Rattle.scalar.specs.Orders.{ordered}
use Rattle.scalar.proofs.Bytes.{number_lt}
use Rattle.judge.specs.Levels.{Turned}
use Rattle.judge.proofs.Levels.{turned, compare_more, compare_all}
use Rattle.judge.proofs.worth_is.Goals as goal

pub both-preserved : goal.both-preserved
both-preserved c =
    let a = c.args in
    let l = c.both in
    let t : Turned (number (ordered a.order) a.scalar.now) a.digits.now l.q l.carry c.carried-turn.result = rw c.carried-turn.ensures (turned l.carry l.invariant.small c.eight_within.ensures c.byte.ensures) in
    compare_more (number (ordered a.order) a.scalar.now) a.digits.now l.q l.carry l.invariant t c.if-turn-ne0.false

pub above-preserved : goal.above-preserved
above-preserved c =
    let a = c.args in
    let l = c.above in
    let t : Turned (number (ordered a.order) a.scalar.now) a.digits.now l.q l.carry c.carried-turn-in-above.result = rw c.carried-turn-in-above.ensures (turned l.carry l.invariant.small c.eight.ensures c.byte-in-above.ensures) in
    compare_more (number (ordered a.order) a.scalar.now) a.digits.now l.q l.carry l.invariant t c.if-turn-ne0-2.false

pub returns : goal.returns
returns c =
    let a = c.args in
    let l = c.above in
    let N = number (ordered a.order) a.scalar.now in
    let small = number_lt (ordered a.order) a.scalar.now (λ i. (c.type_inv.scalar i).fits) in
    compare_all N a.digits.now l.q l.carry l.invariant (omega (arith, c.max-end.ensures)) (lt_of_lt_of_le small (pow_mono (omega (arith, c.max-end.ensures))))
