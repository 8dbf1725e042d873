-- One law where the window ends at place 0 or above, one where it does not.
use Rattle.std.proofs.Common.{◌∙◌, arith}
use Rattle.meaning.specs.Scalars.{number}
use Rattle.scalar.specs.Orders.{ordered}
use Rattle.scalar.proofs.Fields.{window_over, window_under}
use Rattle.scalar.proofs.window.Goals as goal

pub returns-then-span-i : goal.returns-then-span-i
returns-then-span-i c = let a = c.args in c.field.ensures ∙ window_over (number (ordered a.order) a.s.now) a.i a.w c.if-span-i.true

pub returns : goal.returns
returns c = let a = c.args in rw c.field-2.ensures (window_under (number (ordered a.order) a.s.now) a.i a.w 32 c.if-span-i.false (omega arith))
