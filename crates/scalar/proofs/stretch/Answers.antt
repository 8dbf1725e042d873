-- A stretch lies in eight bytes.
use Rattle.meaning.specs.Scalars.{number}
use Rattle.scalar.specs.Orders.{ordered}
use Rattle.scalar.proofs.Fields.{stretch_is}
use Rattle.scalar.proofs.stretch.Goals as goal

pub returns : goal.returns
returns c = let a = c.args in rw c.word.ensures (stretch_is (number (ordered a.order) a.s.now) a.i)
