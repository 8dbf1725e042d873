-- Where the line ends, what is kept of it is judged; where it does not, it is kept. Assumes nothing.
use Rattle.std.proofs.Common.{◌≤◌, ◌+◌, ◌-◌, length, sym, ap, subst, arith}
use Rattle.std.proofs.Math.Seq.{take_all}
use lib.ListN.{length-drop}
use borrow.Rule.Slice.PartMut.{same_len_mid}
use Rattle.laws.proofs.Parts.{part_lent}
use Rattle.meaning.specs.Salvage.{told}
use Rattle.cutter.specs.Cuts.{begun}
use Rattle.sift.proofs.Puts.{puts_text}
use Rattle.sift.proofs.Sifting.{kept_same, holds_more, taken_open, taken_closed}
use Rattle.sift.proofs.Room.step.Goals as goal

pub returns-in-Ends-clause-stepped : goal.returns-in-Ends-clause-stepped
returns-in-Ends-clause-stepped c =
    let a = c.args in
    let out₀ = a.self.now.out.now in
    let report₀ = a.self.now.report.now in
    let C = c.in-Ends.ensures in
    let S = c.sift-sifted.ensures in
    let out = c.sift-sifted.new.out in
    let report = c.sift-sifted.new.report in
    let same_out = same_len_mid a.filled (length out₀ - a.filled) out₀ out c.sift-sifted.auto.out in
    let same_report = same_len_mid a.said (length report₀ - a.said) report₀ report c.sift-sifted.auto.report in
    record {
      bounded = record {
        used_within = C.used_within;
        kept_within = omega arith;
        filled_within = subst (λ m. a.filled + c.sift-sifted.result.filled ≤ m) (sym same_out) (omega (arith, S.keeps.within, ap length (part_lent out₀ a.filled), length-drop a.filled out₀));
        said_within = subst (λ m. a.said + c.sift-sifted.result.said ≤ m) (sym same_report) (omega (arith, S.tells.within, ap length (part_lent report₀ a.said), length-drop a.said report₀));
        moves = λ h. C.moves;
      };
      number_within = omega arith;
      taken = λ k p before t.
          let ended = C.ends (begun p before) t.keeps in
          let same = kept_same ended.keeps (omega (arith, c.next.auto.line)) in
          taken_closed t ended (holds_more t.lines_are (puts_text same.0 S.keeps)) (holds_more t.remarks_are (puts_text (ap told (same.1 a.number)) S.tells));
    }

pub returns-in-GoesOn-clause-stepped : goal.returns-in-GoesOn-clause-stepped
returns-in-GoesOn-clause-stepped c =
    let piece = c.args.piece.now in
    let C = c.in-GoesOn.ensures in
    record {
      bounded = record {
        used_within = omega arith;
        kept_within = C.kept_within;
        filled_within = c.requires.filled_in_bounds.0;
        said_within = c.requires.filled_in_bounds.1;
        moves = λ h. h;
      };
      number_within = omega arith;
      taken = λ k p before t. rw (take_all (length piece) piece (omega arith)) (taken_open t (C.goes_on (begun p before) t.keeps));
    }
