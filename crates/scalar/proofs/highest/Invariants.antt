-- x is what stands above the bytes that are still to be read, and has as many bytes as were read.
use Rattle.std.proofs.Common.{◌≡◌, ◌*◌, ◌/◌, ◌-◌, ◌^◌, ◌<◌, length}
use Rattle.meaning.specs.Scalars.{number}
use Rattle.scalar.specs.Orders.{ordered}
use Rattle.scalar.proofs.highest.Given as goal

abbrev pub invariant-loop-k : goal.invariant-loop-k
invariant-loop-k l = record { above : l.x ≡ number (ordered l.order) l.s / 2 ^ (8 * (length l.s - l.k)); small : l.x < 2 ^ (8 * l.k) }
