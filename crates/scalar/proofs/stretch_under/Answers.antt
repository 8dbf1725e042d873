-- The zeros under place 0 come after what the scalar has.
use Rattle.meaning.specs.Scalars.{number}
use Rattle.scalar.specs.Orders.{ordered}
use Rattle.scalar.proofs.Fields.{stretch_under_is}
use Rattle.scalar.proofs.stretch_under.Goals as goal

pub returns : goal.returns
returns c =
    let a = c.args in
    rw c.stretch.ensures (stretch_under_is (number (ordered a.order) a.s.now) a.i a.w c.saturating_sub.result c.saturating_sub-2.result c.requires.w_bound c.saturating_sub.ensures c.saturating_sub-2.ensures)
