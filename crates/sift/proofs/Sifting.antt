-- A damaged file taken in piece by piece: what is kept of a line decides what is written of it and said of it; a piece is taken in line by line, and then the end. Assumes nothing.
use mathlib.Core.Path.{◌≡◌, refl, sym, ap, subst, ◌∙◌}
use mathlib.Core.Logic.{◌≢◌}
use mathlib.Core.List.{List, [], ◌∷◌, ◌++◌, append-nil}
use Prim.Native.Nat.{ℕ, ◌+◌, ◌-◌, ◌<◌, ◌≤◌}
use native.Mathlib.Nat.{zero-add}
use native.Mathlib.Omega.{arith}
use lib.ListN.{length, take, drop, length-take, length-drop, length-append}
use lib.Seq.{length-sets, length-take-le, take_at, take-add, take-nil}
use Rattle.meaning.specs.Salvage.{kept_line, kept_lines, remarks, reported, told}
use Rattle.laws.proofs.Parts.{part_lent, part_back, part_front}
use Rattle.laws.proofs.Runs.{sets_front}
use Rattle.cutter.specs.Cuts.{ended, begun, last, Keeps, Open, Closed}
use Rattle.cutter.proofs.Pieces.{ended_append, begun_append}
use Rattle.cutter.proofs.Keeping.{keeps_none}
use Rattle.layout.proofs.Verdicts.{cut_same}
use Rattle.layout.proofs.Salvage.{kept_append, reported_append, told_append, kept_one, reported_one}
use Rattle.sift.specs.Puts.{Puts}
use Rattle.sift.specs.declared.Fed.{Fed}
use Rattle.sift.specs.declared.Room.{Room}
use Rattle.sift.specs.Sifts.{least_kept, Same, Holds, Taken, Stepped}

-- ---- a line
-- what is kept of a line is judged as the line
pub kept_same : {p line : List ℕ} {kept : ℕ} → Keeps p line kept → least_kept ≤ length line → (kept_line (take kept line) ≡ kept_line p) × ((k : ℕ) → remarks k (take kept line) ≡ remarks k p)
kept_same {p} {line} k least = rw k.front_is (cut_same (length line) p (omega arith))

-- ---- text in lent memory
-- it is the front of the memory that it was put into
pub put_front : {t out₀ out : List ℕ} {r : ℕ} → Puts t 0 out₀ r out → take r out ≡ t
put_front {t} {out₀} {out} {r} p =
    let count : length t ≡ r = sym (p.end_is ∙ zero-add (length t)) in
    let fits : length t ≤ length out₀ = omega (arith, p.within, ap length p.out_is, length-sets out₀ 0 t) in
    ap (take r) (p.out_is ∙ sets_front out₀ t fits) ∙ take_at t (drop (length t) out₀) r count

-- that is put into the part of lent memory that is not filled, behind what stands there
pub holds_more : {text out : List ℕ} {n : ℕ} → Holds text out n → {t more : List ℕ} {r : ℕ} → Puts t 0 (take (length out - n) (drop n out)) r more
    → Holds (text ++ t) (take n out ++ (more ++ drop (length out - n) (drop n out))) (n + r)
holds_more {text} {out} {n} h {t} {more} {r} p =
    rw (part_back out n more)
    (record {
      within = omega (arith, p.within, length-append (take n out) more, length-take-le n out h.within);
      front_is = part_front out n h.within more r ∙ ap (λ l. l ++ take r more) h.front_is ∙ ap (λ l. text ++ l) (put_front p);
    })

-- ---- a text more is taken in
module _ {k : ℕ} {p before line₀ : List ℕ} {kept₀ : ℕ} {out : List ℕ} {filled : ℕ} {report : List ℕ} {said number : ℕ} (t : Taken k p before line₀ kept₀ out filled report said number)
    {text line : List ℕ} {kept : ℕ} where
  -- no line ends in it
  pub taken_open : Open (begun p before) text line kept → Taken k p (before ++ text) line kept out filled report said number
  taken_open o =
      let same : ended p before ≡ ended p (before ++ text) = sym (ended_append p before text ∙ ap (λ ls. ended p before ++ ls) o.none ∙ append-nil (ended p before)) in
      record {
        keeps = rw (begun_append p before text) o.keeps;
        lines_are = subst (λ ls. Holds (kept_lines ls) out filled) same t.lines_are;
        remarks_are = subst (λ ls. Holds (told (reported k ls)) report said) same t.remarks_are;
        number_is = t.number_is ∙ ap (λ ls. length ls + k) same;
      }

  -- it ends a line, of which is written and said what there is to write and to say
  pub taken_closed : (c : Closed (begun p before) text line kept) {out' report' : List ℕ} {filled' said' : ℕ} → Holds (kept_lines (ended p before) ++ kept_line c.whole) out' filled'
      → Holds (told (reported k (ended p before)) ++ told (remarks number c.whole)) report' said' → Taken k p (before ++ text) line 0 out' filled' report' said' (number + 1)
  taken_closed c {out'} {report'} {filled'} {said'} a b =
      let ls = ended p before in
      let w = c.whole in
      let same : ls ++ (w ∷ []) ≡ ended p (before ++ text) = sym (ended_append p before text ∙ ap (λ ms. ls ++ ms) c.one) in
      let lines : kept_lines ls ++ kept_line w ≡ kept_lines (ended p (before ++ text)) = ap (λ x. kept_lines ls ++ x) (sym (kept_one w)) ∙ sym (kept_append ls (w ∷ [])) ∙ ap kept_lines same in
      let remark : remarks number w ≡ reported (length ls + k) (w ∷ []) = ap (λ i. remarks i w) t.number_is ∙ sym (reported_one (length ls + k) w) in
      let words : told (reported k ls) ++ told (remarks number w) ≡ told (reported k (ended p (before ++ text))) =
      ap (λ x. told (reported k ls) ++ told x) remark
      ∙ sym (told_append (reported k ls) (reported (length ls + k) (w ∷ [])))
      ∙ ap told (sym (reported_append k ls (w ∷ [])) ∙ ap (reported k) same) in
      record {
        keeps = rw (begun_append p before text, c.rest) (keeps_none line);
        lines_are = subst (λ x. Holds x out' filled') lines a;
        remarks_are = subst (λ x. Holds x report' said') words b;
        number_is = omega (arith, t.number_is, ap length same, length-append ls (w ∷ []));
      }

-- ---- lent memory stays as long as it is
pub same_start : (r : Room) → Same r r
same_start r = record { digits_same = refl; out_same = refl; report_same = refl; digits_length = refl; out_length = refl; report_length = refl }

pub same_more : {r₀ r r' : Room} → Same r₀ r → Same r r' → Same r₀ r'
same_more s t =
    record {
      digits_same = t.digits_same ∙ s.digits_same;
      out_same = t.out_same ∙ s.out_same;
      report_same = t.report_same ∙ s.report_same;
      digits_length = t.digits_length ∙ s.digits_length;
      out_length = t.out_length ∙ s.out_length;
      report_length = t.report_length ∙ s.report_length;
    }

-- ---- a piece is taken in, line by line: the loop's invariant
pub record Feeding (piece line₀ : List ℕ) (kept₀ number₀ : ℕ) (line out report : List ℕ) (used kept number filled said : ℕ) : Type 0 where
  pub used_within : used ≤ length piece
  pub kept_within : kept ≤ length line
  pub filled_within : filled ≤ length out
  pub said_within : said ≤ length report
  pub number_within : number ≤ number₀ + used
  pub start : used ≡ 0 → (filled ≡ 0) × (said ≡ 0)
  pub taken : (p : List ℕ) → Keeps p line₀ kept₀ → Taken number₀ p (take used piece) line kept out filled report said number

pub feed_none : (piece line : List ℕ) (kept number : ℕ) (out report : List ℕ) → kept ≤ length line → Feeding piece line kept number line out report 0 kept number 0 0
unfolding ended begun kept_lines reported told
feed_none piece line kept number out report h =
    record {
      used_within = omega arith;
      kept_within = h;
      filled_within = omega arith;
      said_within = omega arith;
      number_within = omega arith;
      start = λ _. (refl, refl);
      taken = λ p k. record {
        keeps = k;
        lines_are = record { within = omega arith; front_is = refl };
        remarks_are = record { within = omega arith; front_is = refl };
        number_is = sym (zero-add number);
      };
    }

module _ {piece line₀ : List ℕ} {kept₀ number₀ : ℕ} {line out report : List ℕ} {used kept number filled said : ℕ} (f : Feeding piece line₀ kept₀ number₀ line out report used kept number filled said) where
  -- a step more
  module _ (h : used < length piece) {r : Fed} {line' out' report' : List ℕ}
      (s : Stepped (take (length piece - used) (drop used piece)) line kept out filled report said number r line' out' report') where
    left : length (take (length piece - used) (drop used piece)) ≡ length piece - used
    left = ap length (part_lent piece used) ∙ length-drop used piece

    pub step_moves : (used < used + r.used) × (used + r.used ≤ length piece)
    step_moves = (omega (arith, left, s.bounded.moves (omega (arith, left))), omega (arith, left, s.bounded.used_within))

    pub feed_more : Feeding piece line₀ kept₀ number₀ line' out' report' (used + r.used) r.kept r.number r.filled r.said
    feed_more =
        let more : take (used + r.used) piece ≡ take used piece ++ take r.used (take (length piece - used) (drop used piece)) =
        take-add used r.used piece ∙ ap (λ l. take used piece ++ take r.used l) (sym (part_lent piece used)) in
        record {
          used_within = step_moves.1;
          kept_within = s.bounded.kept_within;
          filled_within = s.bounded.filled_within;
          said_within = s.bounded.said_within;
          number_within = omega (arith, s.number_within, f.number_within, step_moves.0);
          start = λ e. absurd (omega (arith, step_moves.0));
          taken = λ p k. rw more (s.taken number₀ p (take used piece) (f.taken p k));
        }

-- ---- the end
-- of no line only is nothing kept
pub last_none : (p line : List ℕ) → 0 < length line → Keeps p line 0 → last p ≡ []
last_none [] line h k = refl
last_none (c ∷ p) line h k = absurd (omega (arith, k.count_is, length-take (length line) (c ∷ p)))

pub last_some : (p line : List ℕ) (kept : ℕ) → Keeps p line kept → kept ≢ 0 → last p ≡ p ∷ []
last_some [] line kept k n = absurd (n (k.count_is ∙ ap length (take-nil (length line))))
last_some (c ∷ p) line kept k n = refl
