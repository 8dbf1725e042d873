-- No digit starts up to the end of the stretch, or the first stands over the zeros, and the others come after it.
use Rattle.std.proofs.Common.{sym, arith}
use Rattle.wnaf.proofs.Stretches.{ready_past, ready_odd, ready_on, ready_gives}
use Rattle.wnaf.proofs.Digits.next.Goals as goal

pub returns-then-self-at-clause-first : goal.returns-then-self-at-clause-first
returns-then-self-at-clause-first c = (sym (ready_past c.args.self.now.ready c.if-self-at.true (λ h. omega arith) (λ h. omega arith)), omega arith)

pub take-taken-requires : goal.take-taken-requires
take-taken-requires c =
    let odd = ready_odd c.args.self.now.ready c.if-self-at.false in
    (c.half_span.ensures, odd.0, odd.1)

pub invariant_of-self-2 : goal.invariant_of-self-2
invariant_of-self-2 c = record { ready = ready_on c.args.self.now.ready c.if-self-at.false c.take-taken.ensures }

pub returns-clause-first : goal.returns-clause-first
returns-clause-first c = ready_gives c.args.self.now.ready c.if-self-at.false c.take-taken.ensures
