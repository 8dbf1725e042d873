-- The flag, with one digit more.
use Rattle.std.proofs.Common.{refl, ◌≡◌, sym, get_or, pos, arith, rules}
use Rattle.meaning.specs.Digits.{in_set, all_in}
use Rattle.digits.proofs.Scans.{all_next}
use Rattle.digits.proofs.sound.Goals as goal

pub loop-digit-init : goal.loop-digit-init
unfolding all_in
loop-digit-init c = refl

pub loop-digit-preserved : goal.loop-digit-preserved
loop-digit-preserved c =
    let l = c.loop-digit in
    let here : c.holds-all.result ≡ in_set c.args.width.largest (get_or c.args.digits.now l.digit-index (pos 0)) = search rules in
    rw (l.invariant, here) (sym (all_next c.args.width.largest c.args.digits.now l.digit-index (omega arith)))
