-- The multiples and the first of their negatives are stored. Assumes nothing.
use Rattle.std.proofs.Common.{◌+◌}
use Rattle.laws.proofs.Stores.{Filled}
use Rattle.second.proofs.Entries.{all}
use Rattle.second.proofs.store.Given as goal

abbrev pub invariant-loop-e : goal.invariant-loop-e
invariant-loop-e l = Filled (all l.count l.modulus l.base) l.initial.multiples l.multiples (l.count + l.e)
