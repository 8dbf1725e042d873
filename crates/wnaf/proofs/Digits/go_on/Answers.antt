-- Past the last place no digit is left; else the next stretch starts where the last is used up.
use Rattle.std.proofs.Common.{◌+◌, arith}
use Rattle.meaning.specs.Scalars.{number, bit_count}
use Rattle.scalar.specs.Orders.{ordered}
use Rattle.wnaf.proofs.Stretches.{coming_end, ready_start}
use Rattle.wnaf.proofs.Digits.go_on.Goals as goal

pub returns-then-places-self-clause-more : goal.returns-then-places-self-clause-more
returns-then-places-self-clause-more c =
    let s = c.args.self.now in
    coming_end s.set.w.bits s.set.largest (bit_count s.s.now + 1) (number (ordered s.order) s.s.now) s.place s.carry 0 (omega arith)

pub invariant_of-self : goal.invariant_of-self
invariant_of-self c =
    let g = c.args.self.now.ready in
    record { ready = ready_start g.pair g.few g.small c.stretch.ensures (omega arith) (omega arith) (omega arith) }
