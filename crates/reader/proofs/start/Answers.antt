-- `reader::start` meets its contract, by one law for each of its answers. Assumes nothing.
use mathlib.Core.Path.{refl}
use Rattle.width.proofs.Widths.{width_fine}
use Rattle.scalar.specs.Orders.{ordered}
use Rattle.reader.proofs.Starts.{starts_none, starts_all}
use Rattle.reader.proofs.start.Goals as goal

pub returns-in-None : goal.returns-in-None
returns-in-None c =
    let a = c.args in
    starts_none a.width (ordered a.order) a.scalar.now 0 refl (c.in-None.ensures, refl) (cc)

pub returns-in-Some : goal.returns-in-Some
returns-in-Some c =
    let a = c.args in
    starts_none a.width (ordered a.order) a.scalar.now 1 refl (width_fine c.in-Some.ensures.2, (c.if-scalar-gt-MOST_BYTES.true, refl))
    (cc)

pub returns-in-Some-2 : goal.returns-in-Some-2
returns-in-Some-2 c =
    let a = c.args in
    starts_all a.width (ordered a.order) a.scalar.now c.in-Some.ensures.2 c.if-scalar-gt-MOST_BYTES.false (cc)
