-- The digits from place i up are 0.
use Rattle.std.proofs.Common.{◌≡◌, take}
use Rattle.meaning.specs.Digits.{top}
use Rattle.digits.proofs.top.Given as goal

abbrev pub invariant-loop-i : goal.invariant-loop-i
invariant-loop-i l = top l.digits ≡ top (take l.i l.digits)
