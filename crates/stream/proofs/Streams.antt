-- Streams of lines, whatever relation R says what a line is answered: answers one behind the other, a piece taken in line by line, the end, and the whole. Where a line
-- may be cut, what is kept of it decides its answer. Assumes nothing.
use mathlib.Core.Path.{◌≡◌, refl, sym, ap, ◌∙◌}
use mathlib.Core.Logic.{◌≢◌}
use mathlib.Core.List.{List, [], ◌∷◌, ◌++◌, append_assoc, append-nil}
use Prim.Native.Nat.{ℕ, ◌+◌, ◌-◌, ◌<◌, ◌≤◌}
use native.Mathlib.Omega.{arith}
use lib.ListN.{length, take, drop, length-take, length-drop, length-append}
use lib.Seq.{take-add, take-nil, length-take-le, drop-drop}
use Rattle.meaning.specs.Lines.{lines_of, Each}
use Rattle.laws.proofs.Parts.{part_lent, part_back, part_front, part_past}
use Rattle.cutter.specs.Cuts.{ended, begun, last, Keeps, Open, Closed}
use Rattle.cutter.proofs.Pieces.{ended_append, begun_append, lines_are}
use Rattle.cutter.proofs.Keeping.{keeps_none}
use Rattle.stream.specs.declared.Fed.{Fed}
use Rattle.stream.specs.Streams.{Taken, Stepped}

module _ (R : List ℕ → List ℕ → Type 0) where
  -- ---- answers
  -- one behind the other
  each_append : (ls ms : List (List ℕ)) (a b : List ℕ) → Each R ls a → Each R ms b → Each R (ls ++ ms) (a ++ b)
  unfolding Each
  each_append [] ms a b e f = rw e f
  each_append (l ∷ ls) ms a b (x, y, ax, ay, e) f = (x, y ++ b, ax, each_append ls ms y b ay f, rw e (append_assoc x y b))

  each_one : (l a : List ℕ) → R l a → Each R (l ∷ []) a
  unfolding Each
  each_one l a r = (a, [], r, refl, sym (append-nil a))

  -- what is written for the lines that end in a piece, and then for those that end in the next
  pub both : (p a b x y : List ℕ) → Each R (ended p a) x → Each R (ended (begun p a) b) y → Each R (ended p (a ++ b)) (x ++ y)
  both p a b x y f g = rw (ended_append p a b) (each_append (ended p a) (ended (begun p a) b) x y f g)

  -- what is written for the lines that end, and then for the last one, is written for the whole input
  pub whole : (input a b : List ℕ) → Each R (ended [] input) a → Each R (last (begun [] input)) b → Each R (lines_of input) (a ++ b)
  whole input a b x y = rw (lines_are input) (each_append (ended [] input) (last (begun [] input)) a b x y)

  -- ---- a text more is taken in
  module _ {p before line₀ : List ℕ} {kept₀ : ℕ} {out₀ out : List ℕ} {filled : ℕ} (t : Taken R p before line₀ kept₀ out₀ out filled) {text line : List ℕ} {kept : ℕ} where
    -- no line ends in it
    pub taken_open : Open (begun p before) text line kept → Taken R p (before ++ text) line kept out₀ out filled
    taken_open o =
        record {
          keeps = rw (begun_append p before text) o.keeps;
          answers = rw (ended_append p before text, o.none, append-nil (ended p before)) t.answers;
          within = t.within;
          rest = t.rest;
        }

    -- it ends a line, whose answer is written in the part of the memory that is not filled
    pub taken_closed : (c : Closed (begun p before) text line kept) (more : List ℕ) (r : ℕ) → r ≤ length more → R c.whole (take r more)
        → drop r more ≡ drop r (take (length out - filled) (drop filled out))
        → Taken R p (before ++ text) line 0 out₀ (take filled out ++ (more ++ drop (length out - filled) (drop filled out))) (filled + r)
    taken_closed c more r h a d =
        rw (part_back out filled more)
        (record {
          keeps = rw (begun_append p before text, c.rest) (keeps_none line);
          answers = rw (ended_append p before text, c.one, part_front out filled t.within more r)
              (each_append (ended p before) (c.whole ∷ []) (take filled out) (take r more) t.answers (each_one c.whole (take r more) a));
          within = omega (arith, length-append (take filled out) more, length-take-le filled out t.within);
          rest = part_past out filled t.within more r ∙ d ∙ ap (drop r) (part_lent out filled ∙ t.rest) ∙ drop-drop r filled out₀;
        })

  -- ---- a piece is taken in, line by line: the loop's invariant
  pub record Feeding (piece line₀ : List ℕ) (kept₀ : ℕ) (out₀ line out : List ℕ) (used kept filled : ℕ) : Type 0 where
    pub used_within : used ≤ length piece
    pub kept_within : kept ≤ length line
    pub filled_within : filled ≤ length out
    pub start : used ≡ 0 → filled ≡ 0
    pub taken : (p : List ℕ) → Keeps p line₀ kept₀ → Taken R p (take used piece) line kept out₀ out filled

  pub feed_none : (piece line : List ℕ) (kept : ℕ) (out : List ℕ) → kept ≤ length line → Feeding piece line kept out line out 0 kept 0
  unfolding ended begun Each
  feed_none piece line kept out h =
      record {
        used_within = omega arith;
        kept_within = h;
        filled_within = omega arith;
        start = λ _. refl;
        taken = λ p k. record { keeps = k; answers = refl; within = omega arith; rest = refl };
      }

  module _ {piece line₀ : List ℕ} {kept₀ : ℕ} {out₀ line out : List ℕ} {used kept filled : ℕ} (f : Feeding piece line₀ kept₀ out₀ line out used kept filled) (h : used < length piece)
      {r : Fed} {line' out' : List ℕ} (s : Stepped R (take (length piece - used) (drop used piece)) line kept out filled r line' out') where
    pub step_moves : (used < used + r.used) × (used + r.used ≤ length piece)
    step_moves =
        let n : length (take (length piece - used) (drop used piece)) ≡ length piece - used = ap length (part_lent piece used) ∙ length-drop used piece in
        (omega (arith, s.moves (omega arith)), omega (arith, s.used_within))

    pub feed_more : Feeding piece line₀ kept₀ out₀ line' out' (used + r.used) r.kept r.filled
    feed_more =
        let more : take (used + r.used) piece ≡ take used piece ++ take r.used (take (length piece - used) (drop used piece)) =
        take-add used r.used piece ∙ ap (λ l. take used piece ++ take r.used l) (sym (part_lent piece used)) in
        record {
          used_within = step_moves.1;
          kept_within = s.kept_within;
          filled_within = s.filled_within;
          start = λ e. absurd (omega (arith, step_moves.0));
          taken = λ p k. rw more (s.taken p (take used piece) out₀ (f.taken p k));
        }

  -- ---- the end
  -- of no line only is nothing kept
  pub last_none : (p line : List ℕ) → 0 < length line → Keeps p line 0 → Each R (last p) []
  unfolding Each
  last_none [] line h k = refl
  last_none (c ∷ p) line h k = absurd (omega (arith, k.count_is, length-take (length line) (c ∷ p)))

  pub last_some : (p line : List ℕ) (kept : ℕ) → Keeps p line kept → kept ≢ 0 → (out : List ℕ) → R p out → Each R (last p) out
  last_some [] line kept k n out a = absurd (n (k.count_is ∙ ap length (take-nil (length line))))
  last_some (c ∷ p) line kept k n out a = each_one (c ∷ p) out a
