-- The words passed are translated. Assumes nothing.
use Rattle.laws.proofs.Stores.{Filled}
use Rattle.meaning.specs.SecondChip.{translation}
use Rattle.second.proofs.write.Given as goal

abbrev pub invariant-loop-i : goal.invariant-loop-i
invariant-loop-i l = Filled (translation l.count l.tape) l.initial.words l.words l.i
