-- The places left fall at each call, and each turn tries one digit more.
use Rattle.search.proofs.Tried.{Tried}
use Rattle.search.proofs.+least.Given as goal

abbrev pub decreases-least : goal.decreases-least
decreases-least l = l.places

abbrev pub invariant-loop-i : goal.invariant-loop-i
invariant-loop-i l = Tried l.width.bits l.places l.size l.i l.best
