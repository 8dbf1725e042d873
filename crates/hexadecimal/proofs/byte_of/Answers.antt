-- A digit's byte is the digit in two's complement. Assumes nothing.
use Rattle.std.proofs.Common.{◌∙◌, w8}
use Rattle.std.proofs.lemmas.Int.{to_z-of_z}
use Rattle.hexadecimal.proofs.Writing.{digit_byte}
use Rattle.hexadecimal.proofs.byte_of.Goals as goal

pub returns : goal.returns
returns c = rw (to_z-of_z w8 c.args.d c.ranges.d) at c.cast_unsigned.ensures ∙ digit_byte c.args.d
