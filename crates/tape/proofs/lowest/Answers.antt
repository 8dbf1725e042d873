-- A 0 gives a double alone, another digit an addition too. Assumes nothing.
use Rattle.std.proofs.Common.{arith}
use lib.ListN.{length-set}
use mir.Syntax.{w8}
use Rattle.laws.proofs.Signed.{bits_none, bits_some}
use Rattle.forms.proofs.Strings.{nonzero_one}
use Rattle.tape.proofs.Writes.{lowest_zero}
use Rattle.tape.proofs.lowest.Goals as goal

pub bounds-words-at-then-digit-ne0 : goal.bounds-words-at-then-digit-ne0
bounds-words-at-then-digit-ne0 c = simp length-set (omega (arith, nonzero_one c.args.digit (bits_some w8 c.args.digit c.if-digit-ne0.true)))

pub returns-else-digit-ne0 : goal.returns-else-digit-ne0
returns-else-digit-ne0 c = lowest_zero c.args.at c.args.words.now (bits_none w8 c.args.digit c.ranges.digit c.if-digit-ne0.false) c.encode.ensures
