-- A whole line, stored with its line feed. Assumes nothing.
use mathlib.Core.Path.{◌≡◌, sym, ap, ◌∙◌}
use mathlib.Core.List.{List, [], ◌∷◌, ◌++◌}
use Prim.Native.Nat.{ℕ, ◌+◌, ◌<◌}
use native.Mathlib.Omega.{arith}
use lib.ListN.{length, set, drop, length-append}
use lib.Seq.{sets}
use Rattle.meaning.specs.Lines.{line_feed}
use Rattle.requests.specs.Writing.{Wrote}
use Rattle.laws.proofs.Runs.{sets_append, sets_front}

-- a line and its line feed, stored where the line ends
pub wrote : (out line : List ℕ) (end : ℕ) → end ≡ length line → length line < length out → Wrote (line ++ (line_feed ∷ [])) out (end + 1) (set (sets out 0 line) end line_feed)
wrote out line end e h =
    let n : end + 1 ≡ length (line ++ (line_feed ∷ [])) = omega (arith, length-append line (line_feed ∷ [])) in
    let at : 0 + length line ≡ end = omega arith in
    let stored : set (sets out 0 line) end line_feed ≡ sets out 0 (line ++ (line_feed ∷ [])) =
    ap (λ k. set (sets out 0 line) k line_feed) (sym at) ∙ sym (sets_append out 0 line (line_feed ∷ [])) in
    record {
      count_is = n;
      out_is = stored ∙ sets_front out (line ++ (line_feed ∷ [])) (omega arith) ∙ ap (λ k. (line ++ (line_feed ∷ [])) ++ drop k out) (sym n);
    }
