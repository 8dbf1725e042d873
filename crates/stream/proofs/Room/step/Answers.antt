-- Where the line ends, what is kept of it is answered; where it does not, it is kept. Assumes nothing.
use Rattle.std.proofs.Common.{◌≤◌, ◌+◌, ◌-◌, arith, sym, ap, subst, length, take, drop, length-drop}
use borrow.Rule.Slice.PartMut.{same_len_mid}
use Rattle.std.proofs.Math.Seq.{take_all}
use Rattle.meaning.specs.Requests.{Answer}
use Rattle.laws.proofs.Parts.{part_lent}
use Rattle.cutter.specs.Cuts.{begun}
use Rattle.frames.specs.Told.{version_of}
use Rattle.requests.specs.Answered.{Filled}
use Rattle.stream.proofs.Streams.{taken_open, taken_closed}
use Rattle.stream.proofs.Answering.{answer_kept}
use Rattle.stream.proofs.Room.step.Goals as goal

pub returns-in-GoesOn-clause-stepped : goal.returns-in-GoesOn-clause-stepped
returns-in-GoesOn-clause-stepped c =
    let piece = c.args.piece.now in
    let C = c.in-GoesOn.ensures in
    record {
      used_within = omega arith;
      kept_within = C.kept_within;
      filled_within = c.requires.filled_in_bounds;
      moves = λ h. h;
      taken = λ p before first t. rw (take_all (length piece) piece (omega arith)) (taken_open (Answer (version_of c.args.version)) t (C.goes_on (begun p before) t.keeps));
    }

pub returns-in-Ends-clause-stepped : goal.returns-in-Ends-clause-stepped
returns-in-Ends-clause-stepped c =
    let a = c.args in
    let out = a.self.now.out.now in
    let C = c.in-Ends.ensures in
    let w = c.answer-count in
    let n = length out - a.filled in
    let F : Filled (version_of a.version) (take c.in-Ends.kept c.next.new.line) a.self.now.bytes.now a.self.now.digits.now a.self.now.marks.now (take n (drop a.filled out)) w.result w.new.bytes w.new.digits
    w.new.marks w.new.out = w.ensures.enough (rw (part_lent out a.filled) c.requires.lent) in
    let fits : a.filled + w.result ≤ length out = omega (arith, F.within, w.auto.out, ap length (part_lent out a.filled), length-drop a.filled out, c.requires.filled_in_bounds) in
    record {
      used_within = C.used_within;
      kept_within = omega arith;
      filled_within = subst (λ m. a.filled + w.result ≤ m) (sym (same_len_mid a.filled n out w.new.out w.auto.out)) fits;
      moves = λ h. C.moves;
      taken = λ p before first t.
          let ended = C.ends (begun p before) t.keeps in
          taken_closed (Answer (version_of a.version)) t ended w.new.out w.result F.within
          (answer_kept ended.keeps (omega (arith, c.next.auto.line, c.requires.kept_in_bounds.1)) (take w.result w.new.out) F.answer) F.rest;
    }
