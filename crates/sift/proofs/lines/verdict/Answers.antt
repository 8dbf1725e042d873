-- A line that is not too long has the verdict of reading. Assumes nothing.
use Rattle.std.proofs.Common.{◌≡◌, rules, arith, sym, ap, ◌∙◌, length}
use Rattle.meaning.specs.Frames.{read_rules}
use Rattle.forms.proofs.Refusals.{first_only}
use Rattle.layout.proofs.Verdicts.{verdict_long, verdict_short}
use Rattle.refusals.specs.Coded.{coded}
use Rattle.frames.proofs.Answering.{said_none}
use Rattle.sift.specs.Sifts.{judged}
use Rattle.sift.proofs.lines.verdict.Goals as goal

pub returns-then-line-gt-MOST_SPARSE : goal.returns-then-line-gt-MOST_SPARSE
returns-then-line-gt-MOST_SPARSE c = sym (verdict_long c.args.line.now (omega arith))

pub returns-in_err-read : goal.returns-in_err-read
returns-in_err-read c =
    let line = c.args.line.now in
    let lent = length c.args.digits.now in
    let passed : judged c.from_residual.result ≡ coded c.in_err-read.field-0.0 = search rules in
    passed ∙ (first_only (read_rules line lent) c.in_err-read.ensures.read.first (verdict_short line lent c.requires (omega arith))).0

pub returns : goal.returns
returns c =
    let line = c.args.line.now in
    let lent = length c.args.digits.now in
    sym (said_none c.in_ok-read.field-0) ∙ (first_only (read_rules line lent) c.in_ok-read.ensures.read.first (verdict_short line lent c.requires (omega arith))).0
