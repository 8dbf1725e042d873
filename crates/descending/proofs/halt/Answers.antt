-- Where the window of the tie turns, the descent halts over it.
use Rattle.std.proofs.Common.{◌≡◌, ℕ, subst, sym, ap, ◌∙◌}
use Rattle.meaning.specs.Scalars.{number}
use Rattle.scalar.specs.Orders.{ordered}
use Rattle.descending.specs.Sweeps.{Halts, bit_of}
use Rattle.descending.proofs.Sweeping.{halt_none, halt_some}
use Rattle.descending.proofs.halt.Goals as goal
use Rattle.descending.proofs.halt.Goals.{in-AtOne, in-AtZero}

halts : {b b' w N t t' r : ℕ} → b ≡ b' → t ≡ t' → Halts b w N t r → Halts b' w N t' r
halts {b} {b'} {w} {N} {t} {t'} {r} e f h = subst (λ x. Halts x w N t' r) e (subst (λ x. Halts b w N x r) f h)

pub returns-then-turns : goal.returns-then-turns
returns-then-turns c =
    let a = c.args in
    let b : c.match-turn.bit ≡ bit_of a.turn = elim c.match-turn.branch [ in-AtOne w ↦ w.bit-is ∙ ap bit_of (sym w.in-AtOne.is) | in-AtZero w ↦ w.bit-is ∙ ap bit_of (sym w.in-AtZero.is) ] in
    halts b c.lowest.ensures (halt_some a.w.bits (number (ordered a.order) a.s.now) c.lowest.result c.args.w.wide.0 c.window-bits.ensures c.turns.ensures c.if-turns.true)

pub returns-else-turns : goal.returns-else-turns
returns-else-turns c =
    let a = c.args in
    let b : c.match-turn.bit ≡ bit_of a.turn = elim c.match-turn.branch [ in-AtOne w ↦ w.bit-is ∙ ap bit_of (sym w.in-AtOne.is) | in-AtZero w ↦ w.bit-is ∙ ap bit_of (sym w.in-AtZero.is) ] in
    halts b c.lowest.ensures (halt_none a.w.bits (number (ordered a.order) a.s.now) c.lowest.result c.args.w.wide.0 c.window-bits.ensures c.turns.ensures c.if-turns.false)
