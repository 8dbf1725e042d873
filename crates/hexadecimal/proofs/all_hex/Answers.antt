-- All characters are hexadecimal exactly if each is. Assumes nothing.
use Rattle.std.proofs.Common.{rules}
use Rattle.hexadecimal.proofs.Characters.{hex_each}
use Rattle.hexadecimal.proofs.all_hex.Goals as goal

pub returns : goal.returns
returns c = hex_each c.args.line.now c.all.result (search rules)
