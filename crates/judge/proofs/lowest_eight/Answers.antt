-- One place more, under the others.
use Rattle.std.proofs.Common.{◌≡◌, ◌+◌, ◌-◌, suc, subst, arith}
use Rattle.judge.specs.Levels.{Stretch}
use Rattle.judge.proofs.Levels.{stretch_more}
use Rattle.judge.proofs.lowest_eight.Goals as goal

pub loop-k-preserved : goal.loop-k-preserved
loop-k-preserved c =
    let ds = c.args.part.now in
    let l = c.loop-k in
    let k = l.k - 1 in
    let here : l.k ≡ k + 1 = omega arith in
    let more : 8 - k ≡ suc (8 - l.k) = omega arith in
    rw more (stretch_more ds k (8 - l.k) c.digit_at.result l.sum c.digit_at.ensures (subst (λ j. Stretch ds j (8 - l.k) l.sum) here l.invariant))

pub returns : goal.returns
returns c = let none : c.loop-k.k ≡ 0 = omega arith in rw none at c.loop-k.invariant
