-- The first powers are stored, and the next is found. Assumes nothing.
use Rattle.walk.proofs.Storing.{Storing}
use Rattle.powers.proofs.OddPowers.{stored}
use Rattle.powers.proofs.store.Given as goal

abbrev pub invariant-loop-stored : goal.invariant-loop-stored
invariant-loop-stored l = Storing (stored l.modulus l.base) l.count l.initial.stored-items l.stored-items l.power l.stored-index
