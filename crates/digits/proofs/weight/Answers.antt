-- What is counted is the weight with one digit more.
use Rattle.std.proofs.Common.{refl, ◌≡◌, ◌+◌, take, get_or, pos, arith, rules}
use lib.Seq.{length-take-le}
use Rattle.forms.proofs.Strings.{weight_le, weight_next}
use Rattle.meaning.specs.Digits.{nonzero, weight}
use Rattle.digits.proofs.weight.Goals as goal

-- with one digit more
more : (c : goal.After-counted-sum) → let l = c.loop-digit in l.sum + c.counted-sum.result ≡ weight (take (l.digit-index + 1) c.args.digits.now)
more c =
    let l = c.loop-digit in
    let here : c.counted-sum.result ≡ nonzero (get_or c.args.digits.now l.digit-index (pos 0)) = search rules in
    omega (arith, l.invariant, here, weight_next c.args.digits.now l.digit-index (omega arith))

pub loop-digit-init : goal.loop-digit-init
unfolding weight
loop-digit-init c = refl

pub overflow_add-sum : goal.overflow_add-sum
overflow_add-sum c =
    let s = c.args.digits.now in
    let n = c.loop-digit.digit-index + 1 in
    record { fits = omega (arith, more c, weight_le (take n s), length-take-le n s (omega arith), c.requires) }

pub loop-digit-preserved : goal.loop-digit-preserved
loop-digit-preserved c = more c
