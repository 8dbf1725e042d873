-- Where something is kept, it is the last line's. Assumes nothing.
use Rattle.std.proofs.Common.{◌≡◌, sym, ap, subst, ◌∙◌, List, [], ◌∷◌, ℕ, arith}
use Rattle.meaning.specs.Salvage.{kept_lines, reported, told}
use Rattle.cutter.specs.Cuts.{last, Keeps}
use Rattle.layout.proofs.Salvage.{kept_one, reported_one}
use Rattle.sift.proofs.Sifting.{kept_same, put_front, last_none, last_some}
use Rattle.sift.proofs.Room.finish.Goals as goal

pub returns-then-kept-eq0-clause-ends : goal.returns-then-kept-eq0-clause-ends
unfolding kept_lines reported told
returns-then-kept-eq0-clause-ends c =
    let line = c.args.line.now in
    let none : (p : List ℕ) → Keeps p line c.args.kept → last p ≡ [] = λ p k. last_none p line (omega arith) (subst (Keeps p line) c.if-kept-eq0.true k) in
    record {
      filled_within = omega arith;
      said_within = omega arith;
      lines_are = λ p k. ap kept_lines (sym (none p k));
      remarks_are = λ p k. ap (λ ls. told (reported c.args.number ls)) (sym (none p k));
    }

pub returns-clause-ends : goal.returns-clause-ends
returns-clause-ends c =
    let line = c.args.line.now in
    let first = c.args.number in
    let S = c.sift.ensures in
    let least = c.requires.kept_in_bounds.1 in
    let one : (p : List ℕ) → Keeps p line c.args.kept → last p ≡ p ∷ [] = λ p k. last_some p line c.args.kept k c.if-kept-eq0.false in
    record {
      filled_within = S.keeps.within;
      said_within = S.tells.within;
      lines_are = λ p k. put_front S.keeps ∙ (kept_same k least).0 ∙ sym (kept_one p) ∙ ap kept_lines (sym (one p k));
      remarks_are = λ p k. put_front S.tells ∙ ap told ((kept_same k least).1 first ∙ sym (reported_one first p) ∙ ap (reported first) (sym (one p k)));
    }
