-- The flag says whether all digits passed are in the set.
use Rattle.std.proofs.Common.{◌≡◌, take}
use Rattle.meaning.specs.Digits.{all_in}
use Rattle.digits.proofs.sound.Given as goal

abbrev pub invariant-loop-digit : goal.invariant-loop-digit
invariant-loop-digit l = l.all ≡ all_in l.width.largest (take l.digit-index l.digits)
