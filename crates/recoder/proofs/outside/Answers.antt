-- No bytes are worth 0, so that an order which they do not lie under is worth nothing.
use Rattle.std.proofs.Common.{ap, refl, inl, inr, arith}
use mathlib.Core.Bool.{not}
use Rattle.meaning.specs.Scalars.{highest_first, number}
use Rattle.scalar.proofs.Compared.{not_below}
use Rattle.recoder.proofs.outside.Goals as goal

pub returns-then-not-below : goal.returns-then-not-below
unfolding number
returns-then-not-below c =
    let nothing = not_below 0 (number highest_first c.args.group.now) c.below.result c.below.ensures (ap not c.if-not-below.true) in
    λ l. inl (refl, (inl (inr (omega (arith, nothing))), refl))
