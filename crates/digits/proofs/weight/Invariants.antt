-- The sum is the weight of the digits passed.
use Rattle.std.proofs.Common.{◌≡◌, take}
use Rattle.meaning.specs.Digits.{weight}
use Rattle.digits.proofs.weight.Given as goal

abbrev pub invariant-loop-digit : goal.invariant-loop-digit
invariant-loop-digit l = l.sum ≡ weight (take l.digit-index l.digits)
