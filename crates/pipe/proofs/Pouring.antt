-- A piece of the input, poured in as fast as answers go out: the loop's invariant, and what a feed adds to it. Assumes nothing.
use mathlib.Core.Path.{◌≡◌, sym, ap, ◌∙◌}
use mathlib.Core.List.{List, ◌++◌}
use Prim.Native.Nat.{ℕ, ◌+◌, ◌-◌, ◌<◌, ◌≤◌}
use native.Mathlib.Omega.{arith}
use lib.ListN.{length, take, drop, length-drop}
use lib.Seq.{take-add}
use Rattle.meaning.specs.Frames.{Version}
use Rattle.meaning.specs.Requests.{Answer}
use Rattle.laws.proofs.Parts.{part_lent}
use Rattle.cutter.specs.Cuts.{begun, Keeps}
use Rattle.cutter.proofs.Pieces.{begun_append}
use Rattle.requests.specs.Answered.{most_answer}
use Rattle.stream.specs.declared.Fed.{Fed}
use Rattle.stream.specs.Streams.{Feeds}

-- what lies before `at` has come
pub record Pouring (piece line₀ : List ℕ) (kept₀ : ℕ) (line : List ℕ) (at kept : ℕ) : Type 0 where
  pub at_within : at ≤ length piece
  pub kept_within : kept ≤ length line
  pub keeps : (p : List ℕ) → Keeps p line₀ kept₀ → Keeps (begun p (take at piece)) line kept

pub pour_start : (piece line : List ℕ) (kept : ℕ) → kept ≤ length line → Pouring piece line kept line 0 kept
unfolding begun
pour_start piece line kept h = record { at_within = omega arith; kept_within = h; keeps = λ p k. k }

-- the part that is fed starts at `at`
module _ {v : Version} {piece line₀ : List ℕ} {kept₀ : ℕ} {line : List ℕ} {at kept : ℕ} (P : Pouring piece line₀ kept₀ line at kept) (h : at < length piece) {out₀ line' out : List ℕ} {f : Fed}
    (F : Feeds (Answer v) (most_answer v) (take (length piece - at) (drop at piece)) line kept out₀ f line' out) where
  -- it moves on, and not past the end
  pub pour_moves : (at < at + f.used) × (at + f.used ≤ length piece)
  pour_moves =
      let n : length (take (length piece - at) (drop at piece)) ≡ length piece - at = ap length (part_lent piece at) ∙ length-drop at piece in
      (omega (arith, F.moves (omega arith)), omega (arith, F.used_within))

  pub pour_more : Pouring piece line₀ kept₀ line' (at + f.used) f.kept
  pour_more =
      let more : take (at + f.used) piece ≡ take at piece ++ take f.used (take (length piece - at) (drop at piece)) =
      take-add at f.used piece ∙ ap (λ l. take at piece ++ take f.used l) (sym (part_lent piece at)) in
      record {
        at_within = pour_moves.1;
        kept_within = F.kept_within;
        keeps = λ p k. rw (more, begun_append p (take at piece)) (F.taken (begun p (take at piece)) (P.keeps p k)).keeps;
      }
