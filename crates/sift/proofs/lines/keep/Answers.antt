-- The line feed stands behind the line. Assumes nothing.
use Rattle.std.proofs.Common.{length, arith}
use Rattle.meaning.specs.Hexadecimal.{in_capitals}
use Rattle.hexadecimal.proofs.Capitals.{capitals_length}
use Rattle.sift.proofs.Puts.{puts_then, puts_one}
use Rattle.sift.proofs.lines.keep.Goals as goal

pub returns : goal.returns
returns c =
    let line = c.args.line.now in
    let out = c.put_capitals.new.out in
    let n = capitals_length line in
    puts_then {a = in_capitals line}
    (record { within = omega (arith, c.put_capitals.auto.out); end_is = omega arith; out_is = c.put_capitals.ensures })
    (puts_one out (length line) 10 (omega (arith, c.put_capitals.auto.out)))
