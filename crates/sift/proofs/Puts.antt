-- Text that is put into lent memory: a text that is copied there, and one text behind another. Assumes nothing.
use mathlib.Core.Path.{◌≡◌, refl, sym, ap, subst, ◌∙◌}
use mathlib.Core.List.{List, [], ◌∷◌, ◌++◌, append_assoc}
use Prim.Native.Nat.{ℕ, ◌+◌, ◌<◌, ◌≤◌}
use native.Mathlib.Omega.{arith}
use lib.ListN.{length, take, drop, set, length-set, length-append}
use lib.Seq.{sets, sets-eq, length-sets, drop-drop}
use Rattle.laws.proofs.Runs.{sets_append}
use Rattle.sift.specs.Puts.{Puts}

-- a text that is copied to its place
pub puts_copy : (text out : List ℕ) (at n : ℕ) → n ≡ length text → at + length text ≤ length out → Puts text at out (at + length text) (take at out ++ (text ++ drop n (drop at out)))
puts_copy text out at n e h =
    let stored = ap (λ l. take at out ++ (text ++ l)) (drop-drop n at out ∙ ap (λ k. drop (at + k) out) e) ∙ sym (append_assoc (take at out) text (drop (at + length text) out)) ∙ sym (sets-eq text out at h) in
    record { within = omega (arith, ap length stored, length-sets out at text); end_is = refl; out_is = stored }

-- no text, at the front; and the same text by another name
pub puts_none : (out : List ℕ) → Puts [] 0 out 0 out
puts_none out = record { within = omega arith; end_is = refl; out_is = refl }

pub puts_text : {a b out₀ out : List ℕ} {at r : ℕ} → a ≡ b → Puts a at out₀ r out → Puts b at out₀ r out
puts_text {out₀ = out₀} {out} {at} {r} e p = subst (λ t. Puts t at out₀ r out) e p

-- a character
pub puts_one : (out : List ℕ) (at c : ℕ) → at < length out → Puts (c ∷ []) at out (at + 1) (set out at c)
puts_one out at c h = record { within = omega (arith, length-set out at c); end_is = refl; out_is = refl }

-- one text behind another
pub puts_then : {a b out₀ out out' : List ℕ} {at r r' : ℕ} → Puts a at out₀ r out → Puts b r out r' out' → Puts (a ++ b) at out₀ r' out'
puts_then {a} {b} {out₀} {out} {out'} {at} {r} {r'} p q =
    record {
      within = q.within;
      end_is = omega (arith, p.end_is, q.end_is, length-append a b);
      out_is = q.out_is ∙ ap (λ o. sets o r b) p.out_is ∙ ap (λ k. sets (sets out₀ at a) k b) p.end_is ∙ sym (sets_append out₀ at a b);
    }
