-- A piece of the input, poured in as fast as what is kept and said goes out: the loop's invariant, and what a feed adds to it. Assumes nothing.
use mathlib.Core.Path.{◌≡◌, sym, ap, ◌∙◌}
use mathlib.Core.List.{List, ◌++◌}
use Prim.Native.Nat.{ℕ, ◌+◌, ◌-◌, ◌<◌, ◌≤◌}
use native.Mathlib.Nat.{zero-add}
use native.Mathlib.Omega.{arith}
use lib.ListN.{length, take, drop, length-drop, length-append}
use lib.Seq.{take-add}
use Rattle.laws.proofs.Parts.{part_lent}
use Rattle.cutter.specs.Cuts.{ended, begun, Keeps}
use Rattle.cutter.proofs.Pieces.{ended_append, begun_append}
use Rattle.sift.specs.declared.Fed.{Fed}
use Rattle.sift.specs.Sifts.{Feeds}
use Rattle.salvage.specs.Pours.{Came}

-- what lies before `at` has come
pub record Pouring (piece line₀ : List ℕ) (kept₀ number₀ : ℕ) (line : List ℕ) (at kept number : ℕ) : Type 0 where
  pub at_within : at ≤ length piece
  pub kept_within : kept ≤ length line
  pub number_within : number ≤ number₀ + at
  pub comes : (p : List ℕ) → Keeps p line₀ kept₀ → Came p (take at piece) line kept number₀ number

pub pour_start : (piece line : List ℕ) (kept number : ℕ) → kept ≤ length line → Pouring piece line kept number line 0 kept number
unfolding ended begun
pour_start piece line kept number h =
    record { at_within = omega arith; kept_within = h; number_within = omega arith; comes = λ p k. record { keeps = k; number_is = sym (zero-add number) } }

-- the part that is fed starts at `at`
module _ {piece line₀ : List ℕ} {kept₀ number₀ : ℕ} {line : List ℕ} {at kept number : ℕ} (P : Pouring piece line₀ kept₀ number₀ line at kept number) (h : at < length piece) {f : Fed}
    {line' out report : List ℕ} (F : Feeds (take (length piece - at) (drop at piece)) line kept number f line' out report) where
  left : length (take (length piece - at) (drop at piece)) ≡ length piece - at
  left = ap length (part_lent piece at) ∙ length-drop at piece

  -- it moves on, and not past the end
  pub pour_moves : (at < at + f.used) × (at + f.used ≤ length piece)
  pour_moves = (omega (arith, left, F.bounded.moves (omega (arith, left))), omega (arith, left, F.bounded.used_within))

  pub pour_more : Pouring piece line₀ kept₀ number₀ line' (at + f.used) f.kept f.number
  pour_more =
      let part = take (length piece - at) (drop at piece) in
      let more : take (at + f.used) piece ≡ take at piece ++ take f.used part = take-add at f.used piece ∙ ap (λ l. take at piece ++ take f.used l) (sym (part_lent piece at)) in
      record {
        at_within = pour_moves.1;
        kept_within = F.bounded.kept_within;
        number_within = omega (arith, F.number_within, P.number_within);
        comes = λ p k.
            let C = P.comes p k in
            let t = F.taken (begun p (take at piece)) C.keeps in
            let lines = ended_append p (take at piece) (take f.used part) in
            record {
              keeps = rw (more, begun_append p (take at piece)) t.keeps;
              number_is = rw (more, lines) (omega (arith, t.number_is, C.number_is, length-append (ended p (take at piece)) (ended (begun p (take at piece)) (take f.used part))));
            };
      }
