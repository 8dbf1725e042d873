-- By the kind of the line. Assumes nothing.
use Rattle.std.proofs.Common.{◌≡◌, ◌≢◌, rules}
use Rattle.meaning.specs.Frames.{stated}
use Rattle.frames.proofs.Answering.{read_stated}
use Rattle.frames.proofs.reading.read.Goals as goal

pub returns-in-Stated-clause-read : goal.returns-in-Stated-clause-read
returns-in-Stated-clause-read c =
    let line = c.args.line.now in
    let k : (stated line ≡ c.in-Stated.number) × (c.in-Stated.number ≢ 0) = search rules in
    read_stated line c.args.digits.now k.0 k.1
