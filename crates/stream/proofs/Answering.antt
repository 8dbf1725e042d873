-- The answers to requests: a line that is cut has the answer of what is kept of it, and the memory that is worked in stays enough. Assumes nothing.
use mathlib.Core.Path.{refl, sym, ap, subst, ◌∙◌}
use mathlib.Core.Logic.{inl, inr}
use mathlib.Core.List.{List, [], ◌∷◌, ◌++◌}
use Prim.Native.Nat.{ℕ, ◌≤◌}
use native.Mathlib.Omega.{arith}
use native.Mathlib.Decide.{dec_le}
use lib.Dec.{T}
use lib.ListN.{length, take, length-take}
use lib.Seq.{take_all}
use Rattle.meaning.specs.Refusals.{First}
use Rattle.meaning.specs.Lines.{line_feed}
use Rattle.meaning.specs.Hexadecimal.{written}
use Rattle.meaning.specs.Frames.{Version}
use Rattle.meaning.specs.Requests.{line_rules, Answer}
use Rattle.cutter.specs.Cuts.{Keeps}
use Rattle.requests.proofs.Requests.{long}
use Rattle.stream.specs.declared.Room.{Room}
use Rattle.stream.specs.Streams.{least_kept, Same}

-- ---- a cut line
answer_cut : (v : Version) (n : ℕ) (p out : List ℕ) → least_kept ≤ n → Answer v (take n p) out → Answer v p out
answer_cut v n p out least a = go (dec_le (length p) n)
  where
    go : Dec (length p ≤ n) → Answer v p out
    go (yes h) = subst (λ l. Answer v l out) (take_all n p h) a
    go (no h) = strange a.first
      where
        strange : First (line_rules (take n p)) a.refusal 0 → Answer v p out
        strange (inl (e, c)) =
            record {
              refusal = 16;
              first = inl (refl, (subst T (sym (long p (omega arith))) tt, refl));
              accepted = λ z. absurd (omega arith);
              refused = λ _. a.refused (λ z. omega arith) ∙ ap (λ r. written (r ∷ []) ++ (line_feed ∷ [])) e;
            }
        strange (inr (m, f)) = absurd (m (subst T (sym (long (take n p) (omega (arith, length-take n p)))) tt))

-- the answer to what is kept of a line is the answer to the line
pub answer_kept : {v : Version} {p line : List ℕ} {kept : ℕ} → Keeps p line kept → least_kept ≤ length line → (out : List ℕ) → Answer v (take kept line) out → Answer v p out
answer_kept {v} {p} {line} k least out a = answer_cut v (length line) p out least (subst (λ l. Answer v l out) k.front_is a)

-- ---- a loop over lent memory
pub same_start : (r : Room) → Same r r
same_start r = record { bytes_same = refl; digits_same = refl; marks_same = refl; out_same = refl; bytes_length = refl; digits_length = refl; marks_length = refl; out_length = refl }

pub same_more : {r₀ r r' : Room} → Same r₀ r → Same r r' → Same r₀ r'
same_more s t =
    record {
      bytes_same = t.bytes_same ∙ s.bytes_same;
      digits_same = t.digits_same ∙ s.digits_same;
      marks_same = t.marks_same ∙ s.marks_same;
      out_same = t.out_same ∙ s.out_same;
      bytes_length = t.bytes_length ∙ s.bytes_length;
      digits_length = t.digits_length ∙ s.digits_length;
      marks_length = t.marks_length ∙ s.marks_length;
      out_length = t.out_length ∙ s.out_length;
    }
