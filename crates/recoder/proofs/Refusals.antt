-- Where no rule of recode applies; and a call's own rules for the number that stands for them. Assumes nothing.
use mathlib.Core.Path.{◌≡◌, refl}
use mathlib.Core.Logic.{◌⊎◌, ◌≢◌, ⊎_elim}
use mathlib.Core.List.{List, [], ◌∷◌}
use Prim.Native.Nat.{ℕ, ◌+◌, ◌<◌, ◌≤◌}
use native.Mathlib.Omega.{arith}
use lib.Dec.{T}
use lib.ListN.{length, take, drop}
use Rattle.laws.proofs.Choices.{not_below}
use Rattle.meaning.specs.Scalars.{bit_count, most_bytes}
use Rattle.meaning.specs.Digits.{largest}
use Rattle.meaning.specs.Sets.{Pair}
use Rattle.meaning.specs.Forms.{most_form}
use Rattle.meaning.specs.Refusals.{Rule, plain, First}
use Rattle.meaning.specs.Recoding.{mark_words, set_for, rules_with, recode_rules}
use Rattle.forms.proofs.Refusals.{Clear, clear_both, absent, first_for}
use Rattle.std.specs.Prelude.{Err}
use lib.IntN.{ℤ}
use Rattle.meaning.specs.Scalars.{Order}
use Rattle.meaning.specs.Forms.{Strings}
use Rattle.meaning.specs.Recoding.{RecodeBy}
use Rattle.refusals.specs.declared.Reason.{Reason}
use Rattle.refusals.specs.declared.Refusal.{Refusal}
use Rattle.refusals.specs.Coded.{coded, At}
use Rattle.refusals.proofs.Coded.{coded_some}
use Rattle.digits.specs.Tallies.{answered}
use Rattle.recoder.specs.Judged.{rules_of, Allowed}

module _ (form w m : ℕ) (a : Allowed form w m) where
  -- the form and the width
  pub is_form : (form < 1) ⊎ (most_form < form) → ⊥
  is_form = ⊎_elim (λ l. omega (arith, a.least)) (λ l. omega (arith, a.most))

  pub is_width : ((w < 2) ⊎ (8 < w)) ⊎ ((form ≡ 1) × (w ≢ 2)) → ⊥
  is_width = ⊎_elim (⊎_elim (λ l. omega (arith, a.pair.between.wide)) (λ l. omega (arith, a.pair.most))) (λ l. l.1 (a.narrow l.0))

  -- and the set
  pub is_set : (Pair w m → ⊥) ⊎ ((form ≢ 2) × (m ≢ largest w)) → ⊥
  is_set = ⊎_elim (λ n. n a.pair) (λ l. l.1 (a.whole l.0))

  -- and all the rest, whatever a call has more
  pub admits : (s : List ℕ) (places words : ℕ) (more : List Rule) → Clear more → length s ≤ 66 → bit_count s + 1 ≤ places → mark_words ≤ words
      → Clear (rules_with (set_for form w m) more form w s places words)
  admits s places words more c l p q =
      (is_form, (is_width, (is_set, ((λ h. omega arith), clear_both more (plain 4 (places < bit_count s + 1) ∷ plain 5 (words < mark_words) ∷ []) c ((λ h. omega arith), ((λ h. omega arith), tt))))))

-- ---- a rule among them, of the number b
module _ (b form w m : ℕ) (s : List ℕ) where
  -- it stands for rules about a scalar that is not too long
  pub stands_for : (more : List Rule) → T (absent 0 more) → (length s ≤ most_bytes → First more b 0) → (places words r p : ℕ)
      → First (rules_of b form w m s places words) r p → First (rules_with (set_for form w m) more form w s places words) r p
  stands_for more t g places words r p f =
      first_for (take 4 (recode_rules form w m s places words)) more (drop 4 (recode_rules form w m s places words)) b r p t (λ c. g (not_below c.1.1.1.0)) f

-- ---- a refusal, whatever the rules: both buffers are as lent
pub unrecoded : (rules : List Rule) (S : Strings) (o : Order) (s : List ℕ) (digits : List ℤ) (marks : List ℕ) {e : Reason} (r : Refusal) → At 0 e r → First rules (coded e) 0
    → RecodeBy rules S o s digits marks (answered (Err r)) digits marks
unrecoded rules S o s digits marks {e} r (reason, place) f =
    rw (reason, place) (record { first = f; accepted = λ z. absurd (coded_some e z); refused = λ n. record { digits_are = refl; marks_are = refl; weight_is = refl; top_is = refl } })
