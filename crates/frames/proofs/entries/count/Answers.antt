-- The entries are whole. Assumes nothing.
use Rattle.std.proofs.Common.{arith}
use Rattle.hexadecimal.proofs.Characters.{bytes_count}
use Rattle.frames.proofs.entries.count.Goals as goal

pub overflow_sub-result : goal.overflow_sub-result
overflow_sub-result c = omega (arith, bytes_count c.args.line.now, c.requires.long)

pub returns : goal.returns
returns c = omega (arith, bytes_count c.args.line.now, c.requires.long, c.requires.whole)
