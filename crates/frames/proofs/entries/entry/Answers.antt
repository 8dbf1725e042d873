-- An entry stands within the line. Assumes nothing.
use Rattle.std.proofs.Common.{arith}
use Rattle.hexadecimal.proofs.Characters.{bytes_count}
use Rattle.hexadecimal.proofs.Capitals.{pairs_hex}
use Rattle.frames.proofs.entries.entry.Goals as goal

pub overflow_mul-at : goal.overflow_mul-at
overflow_mul-at c = omega (arith, bytes_count c.args.line.now)

pub overflow_add-at : goal.overflow_add-at
overflow_add-at c = omega (arith, bytes_count c.args.line.now)

pub number_at-requires : goal.number_at-requires
number_at-requires c = (pairs_hex c.args.line.now c.requires.0.pairs, omega (arith, bytes_count c.args.line.now))

pub overflow_add-at-2 : goal.overflow_add-at-2
overflow_add-at-2 c = omega (arith, bytes_count c.args.line.now)

pub digit_at-requires : goal.digit_at-requires
digit_at-requires c = (pairs_hex c.args.line.now c.requires.0.pairs, omega (arith, bytes_count c.args.line.now))
