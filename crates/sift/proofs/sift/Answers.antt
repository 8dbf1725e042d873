-- A dropped line, an altered one, and one that is kept as it is. Assumes nothing.
use Rattle.std.proofs.Common.{◌≡◌, ◌≢◌, sym, ap, ◌∙◌, [], ◌∷◌, arith, rules}
use Rattle.meaning.specs.Salvage.{verdict, dropped, told}
use Rattle.layout.proofs.Verdicts.{kept_short, dropped_kept, dropped_said, good_line, small_said, nothing_said}
use Rattle.refusals.proofs.Coded.{coded_some}
use Rattle.sift.proofs.Puts.{puts_none, puts_text}
use Rattle.sift.proofs.sift.Goals as goal

pub returns-in-Err : goal.returns-in-Err
unfolding told
returns-in-Err c =
    let line = c.args.line.now in
    let v = c.in-Err.ensures in
    let n : verdict line ≢ 0 = λ e. coded_some c.in-Err.reason (v ∙ e) in
    record {
      keeps = puts_text (sym (dropped_kept c.args.number line n)) (puts_none c.args.out.now);
      tells = puts_text (ap (λ r. told ((c.args.number, dropped r) ∷ [])) v ∙ ap told (sym (dropped_said c.args.number line n))) c.dropped-said.ensures;
    }

pub keep-filled-requires : goal.keep-filled-requires
keep-filled-requires c =
    let z : verdict c.args.line.now ≡ 0 = search rules in
    omega (arith, kept_short c.args.line.now z)

pub returns-then-has_small : goal.returns-then-has_small
returns-then-has_small c =
    let line = c.args.line.now in
    let z : verdict line ≡ 0 = search rules in
    let small = sym c.has_small.ensures ∙ c.if-has_small.true in
    record {
      keeps = puts_text (sym (good_line c.args.number line z)) c.keep-filled.ensures;
      tells = puts_text (ap told (sym (small_said c.args.number line z small))) c.case_only-said.ensures;
    }

pub returns : goal.returns
unfolding told
returns c =
    let line = c.args.line.now in
    let z : verdict line ≡ 0 = search rules in
    let large = sym c.has_small.ensures ∙ c.if-has_small.false in
    record {
      keeps = puts_text (sym (good_line c.args.number line z)) c.keep-filled.ensures;
      tells = puts_text (ap told (sym (nothing_said c.args.number line z large))) (puts_none c.args.report.now);
    }
