-- A byte's digit is the byte in two's complement. Assumes nothing.
use Rattle.std.proofs.Common.{◌∙◌, w8}
use Rattle.std.proofs.lemmas.Int.{to_z-of_z}
use Rattle.hexadecimal.proofs.Writing.{byte_digit}
use Rattle.hexadecimal.proofs.digit_of.Goals as goal

pub returns : goal.returns
returns c = to_z-of_z w8 c.cast_signed.result (record { sfits = c.cast_signed.type_inv }) ∙ c.cast_signed.ensures ∙ byte_digit c.args.b
