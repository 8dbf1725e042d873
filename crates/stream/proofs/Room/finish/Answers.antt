-- Where something is kept, it is the last line's. Assumes nothing.
use Rattle.std.proofs.Common.{arith, subst}
use Rattle.meaning.specs.Requests.{Answer}
use Rattle.frames.specs.Told.{version_of}
use Rattle.cutter.specs.Cuts.{Keeps}
use Rattle.stream.proofs.Streams.{last_none, last_some}
use Rattle.stream.proofs.Answering.{answer_kept}
use Rattle.stream.proofs.Room.finish.Goals as goal

pub returns-then-kept-eq0-clause-ends : goal.returns-then-kept-eq0-clause-ends
returns-then-kept-eq0-clause-ends c =
    let line = c.args.line.now in
    record { within = omega arith; answers = λ p k. last_none (Answer (version_of c.args.version)) p line (omega arith) (subst (Keeps p line) c.if-kept-eq0.true k) }

pub returns-clause-ends : goal.returns-clause-ends
returns-clause-ends c =
    let F = c.answer.ensures.enough c.requires.lent in
    record {
      within = F.within;
      answers = λ p k. last_some (Answer (version_of c.args.version)) p c.args.line.now c.args.kept k c.if-kept-eq0.false _ (answer_kept k c.requires.kept_in_bounds.1 _ F.answer);
    }
