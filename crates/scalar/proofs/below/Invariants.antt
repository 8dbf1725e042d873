-- The loop keeps that both numbers are alike from byte q up.
use Rattle.std.proofs.Common.{◌≡◌, ◌*◌, ◌/◌, ◌^◌}
use Rattle.meaning.specs.Scalars.{highest_first, number}
use Rattle.scalar.specs.Orders.{ordered}
use Rattle.scalar.proofs.below.Given as goal

abbrev pub invariant-loop-q : goal.invariant-loop-q
invariant-loop-q l = number (ordered l.order) l.s / 2 ^ (8 * l.q) ≡ number highest_first l.group / 2 ^ (8 * l.q)
