-- The size of the digit, 1 for 0, tells whether the set has it.
use Rattle.std.proofs.Common.{◌∙◌, ap, nat_abs}
use mir.Facts.{to_z-of_z}
use borrow.Author.Tests.{ne_eqb}
use Rattle.width.proofs.Widths.{pair_some}
use Rattle.width.proofs.Sets.{test_odd, test_even}
use Rattle.width.proofs.Width.holds.Goals as goal

pub returns-then-size-eq1 : goal.returns-then-size-eq1
returns-then-size-eq1 c =
    test_odd _ _ _ (c.unsigned_abs.ensures.value ∙ ap nat_abs (to_z-of_z c.ranges.d)) c.max-size.result c.max-size.ensures (pair_some c.args.self.lawful) c.if-size-eq1.true

pub returns-else-size-eq1 : goal.returns-else-size-eq1
returns-else-size-eq1 c =
    ne_eqb _ _ c.if-size-eq1.false ∙ test_even _ _ _ (c.unsigned_abs.ensures.value ∙ ap nat_abs (to_z-of_z c.ranges.d)) c.max-size.result c.max-size.ensures c.if-size-eq1.false
