-- An entry that does not follow breaks the order, and one that does moves the floor. Assumes nothing.
use Rattle.std.proofs.Common.{arith, sym, ap, ◌∙◌, ◌+◌, ◌*◌, w8, of_z, get_or}
use Rattle.meaning.specs.Digits.{nonzero}
use Rattle.meaning.specs.Hexadecimal.{bytes_of}
use Rattle.forms.proofs.Strings.{nonzero_one, nonzero_none}
use Rattle.frames.proofs.Digits.{digit_zero}
use Rattle.frames.proofs.Ordering.{pass_more, pass_broken, pass_all}
use Rattle.frames.proofs.entries.ordered.Goals as goal
use Rattle.frames.proofs.entries.ordered.Goals.{then-place-floor-via-then-place-floor, then-place-floor-via-else-place-floor+then-place-places, then-place-floor-via-else-place-floor+else-place-places+then-digit-eq0}

pub returns-then-place-floor : goal.returns-then-place-floor
returns-then-place-floor c =
    let l = c.loop-e in
    let n = c.count-e-end in
    let x = c.entry-place in
    let bs = bytes_of c.args.line.now in
    pass_broken bs c.args.places n.result n.ensures l.floor l.e l.invariant (omega arith)
    (λ R. elim c.then-place-floor.branch [
      | then-place-floor-via-then-place-floor w ↦ omega (arith, x.ensures.place, R.least)
      | then-place-floor-via-else-place-floor+then-place-places w ↦ omega (arith, x.ensures.place, R.within)
      | then-place-floor-via-else-place-floor+else-place-places+then-digit-eq0 w ↦
          omega (arith, R.one, nonzero_none (digit_zero (get_or bs (7 + 3 * l.e + 2) 0) (ap (of_z w8) (sym x.ensures.digit) ∙ w.if-digit-eq0.true)))
    ])

pub loop-e-preserved : goal.loop-e-preserved
loop-e-preserved c =
    let l = c.loop-e in
    let n = c.count-e-end in
    let x = c.entry-place in
    rw x.ensures.place
    (pass_more (bytes_of c.args.line.now) c.args.places n.result n.ensures l.floor l.e l.invariant (omega arith) (omega (arith, x.ensures.place)) (omega (arith, x.ensures.place))
    (ap nonzero (sym x.ensures.digit) ∙ nonzero_one x.result.1 (λ e. c.if-digit-eq0.false (ap (of_z w8) e))))

pub returns : goal.returns
returns c =
    let l = c.loop-e in
    let n = c.count-e-end in
    pass_all (bytes_of c.args.line.now) c.args.places n.result n.ensures l.floor l.e l.invariant (omega arith)
