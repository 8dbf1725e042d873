-- Where both are read to their ends nothing stands above, and each turn holds one byte more against the other.
use Rattle.std.proofs.Common.{◌≡◌, ◌∙◌, sym, ◌+◌, ◌-◌, arith}
use Rattle.meaning.specs.Scalars.{highest_first}
use Rattle.scalar.specs.Orders.{ordered}
use Rattle.scalar.proofs.Bytes.{none_past}
use Rattle.scalar.proofs.Compared.{alike_more, decided, equal_not}
use Rattle.scalar.proofs.below.Goals as goal

pub loop-q-init : goal.loop-q-init
loop-q-init c =
    let a = c.args in
    none_past (ordered a.order) a.s.now (λ i. (c.type_inv.s i).fits) c.max-q.result (omega (arith, c.max-q.ensures))
    ∙ sym (none_past highest_first a.group.now (λ i. (c.type_inv.group i).fits) c.max-q.result (omega (arith, c.max-q.ensures)))

pub returns-then-x-y : goal.returns-then-x-y
returns-then-x-y c =
    let l = c.loop-q in
    let e : l.q ≡ l.q - 1 + 1 = omega arith in
    decided _ _ (l.q - 1) c.byte-x.result c.byte-y.result (rw e at l.invariant) c.byte-x.ensures c.byte-y.ensures c.if-x-y.true

pub loop-q-preserved : goal.loop-q-preserved
loop-q-preserved c =
    let l = c.loop-q in
    let e : l.q ≡ l.q - 1 + 1 = omega arith in
    alike_more _ _ (l.q - 1) c.byte-x.result c.byte-y.result (rw e at l.invariant) c.byte-x.ensures c.byte-y.ensures c.if-x-y.false

pub returns : goal.returns
returns c = equal_not _ _ c.loop-q.q c.loop-q.invariant (omega arith)
