-- The first byte that is not 0 has the lowest set bit; past all bytes there is none.
use Rattle.std.proofs.Common.{◌≡◌, ◌∙◌, sym, ap, ◌*◌, ◌%◌, ◌^◌, length, arith}
use Rattle.meaning.specs.Scalars.{number}
use Rattle.scalar.specs.Orders.{ordered}
use Rattle.scalar.proofs.Bytes.{number_lt}
use Rattle.scalar.proofs.Zeros.{zeros_more, zeros_found, zeros_all}
use Rattle.scalar.proofs.lowest.Goals as goal

pub returns-then-x-ne0 : goal.returns-then-x-ne0
returns-then-x-ne0 c =
    let l = c.loop-q in
    zeros_found _ _ l.q _ l.invariant c.byte-x.ensures c.if-x-ne0.true (omega arith)

pub loop-q-preserved : goal.loop-q-preserved
loop-q-preserved c = zeros_more _ c.loop-q.q c.loop-q.invariant (sym c.byte-x.ensures ∙ c.if-x-ne0.false)

pub returns : goal.returns
returns c =
    let s = c.args.s.now in
    let o = ordered c.args.order in
    let all : c.loop-q.q ≡ length s = omega arith in
    zeros_all (number o s) (length s) (ap (λ q. number o s % 2 ^ (8 * q)) (sym all) ∙ c.loop-q.invariant) (number_lt o s (λ i. (c.type_inv.s i).fits))
