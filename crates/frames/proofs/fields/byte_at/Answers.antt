-- Each byte is a pair of characters. Assumes nothing.
use Rattle.std.proofs.Common.{◌+◌, ◌*◌, arith, sym, ◌∙◌}
use Rattle.digits.proofs.Scans.{flag}
use Rattle.hexadecimal.proofs.Characters.{byte_is, hex_at}
use Rattle.frames.proofs.fields.byte_at.Goals as goal

pub byte-requires : goal.byte-requires
byte-requires c =
    let a = c.args in
    let hex = flag c.requires.0 in
    (hex_at a.line.now hex (2 * a.k) (omega arith), hex_at a.line.now hex (2 * a.k + 1) (omega arith))

pub returns : goal.returns
returns c = c.byte.ensures ∙ sym (byte_is c.args.line.now c.args.k (omega arith))
