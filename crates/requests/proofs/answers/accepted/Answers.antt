-- The line feed stands behind the frame.
use Rattle.std.proofs.Common.{arith, sym, ◌∙◌}
use Rattle.meaning.specs.Frames.{line_of}
use Rattle.layout.proofs.Frames.{line_length_is}
use Rattle.frames.specs.Told.{version_of}
use Rattle.requests.proofs.Writing.{wrote}
use Rattle.requests.proofs.answers.accepted.Goals as goal

pub returns : goal.returns
returns c =
    let a = c.args in
    let v = version_of a.version in
    let end = line_length_is v a.digits.now in
    rw c.fill.ensures (wrote a.out.now (line_of v a.digits.now) c.line_length-end.result (c.line_length-end.ensures ∙ sym end) (omega (arith, end, c.requires.digits_len_bound.1)))
