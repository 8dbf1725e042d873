-- Each refusal in its turn, then the line. Assumes nothing.
use Rattle.std.proofs.Common.{arith}
use Rattle.forms.proofs.Strings.{top_le}
use Rattle.frames.specs.Told.{version_of}
use Rattle.frames.proofs.Filling.{write_short, write_whole, length_most}
use Rattle.frames.proofs.writing.write.Goals as goal

pub returns-then-out-length : goal.returns-then-out-length
returns-then-out-length c =
    let a = c.args in
    write_short (version_of a.version) a.digits.now a.out.now (omega arith) (omega (arith, c.line_length-length.ensures))

pub overflow_cast-top : goal.overflow_cast-top
overflow_cast-top c = omega (arith, c.top.ensures, top_le c.args.digits.now)

pub overflow_cast-result : goal.overflow_cast-result
overflow_cast-result c =
    let a = c.args in
    omega (arith, c.line_length-length.ensures, length_most (version_of a.version) a.digits.now (omega arith))

pub returns : goal.returns
returns c =
    let a = c.args in
    write_whole (version_of a.version) a.digits.now a.out.now (omega arith) (omega (arith, c.line_length-length.ensures)) c.line_length-length.ensures c.fill.ensures
