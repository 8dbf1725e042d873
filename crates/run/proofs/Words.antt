-- A word judged by its step.
-- Assumes nothing.
use mathlib.Core.Path.{◌≡◌, sym, ap, ◌∙◌, subst}
use mathlib.Core.Logic.{◌≢◌, ⊎_elim}
use mathlib.Core.Bool.{Bool, false, not}
use Prim.Native.Nat.{ℕ, ◌<◌}
use native.Mathlib.Decide.{ℕ_discrete}
use native.Mathlib.Omega.{arith}
use borrow.Author.Tests.{ltb-true, ltb-false, eqb-true, eqb-false, not-true, not-false}
use lib.Dec.{ltb, eqb}
use Rattle.laws.specs.Deciding.{Decides}
use Rattle.laws.proofs.Choices.{denies, not_below}
use Rattle.meaning.specs.Words as Words
use Rattle.meaning.specs.Words.{code_of, entry_of, double, load, add, bad, step_of}
use Rattle.meaning.specs.Walks.{Good}
use Rattle.tape.specs.declared.Step.{Step}
use Rattle.tape.specs.Steps.{told}
use Rattle.walk.proofs.Words.{Says, step_says, signed_le}

-- what the step of a word says of it
pub says : (x : ℕ) {s : Step} → told s ≡ step_of x → {t : Step} → s ≡ t → Says (told t) (code_of x) (entry_of x)
says x is {t} e = subst (λ u. Says u (code_of x) (entry_of x)) (sym is ∙ ap told e) (step_says x)

module _ (count i x : ℕ) where
  -- a double is good anywhere but first
  pub judged_double : 0 < count → Says double (code_of x) (entry_of x) → Decides (not (eqb i 0)) (Good count i x)
  judged_double some (c, e) =
      record {
        yes = λ t. let n = eqb-false i 0 (not-true (eqb i 0) t) in
            record {
              code = omega arith;
              entry = omega (arith, some);
              double = λ z. e;
              first = λ z. absurd (n z);
              later = λ m l. omega arith;
            };
        no = λ f g. let l = g.first (eqb-true i 0 (not-false (eqb i 0) f)) in omega arith;
      }

  -- a load is good first alone, if its entry is there
  pub judged_load : (s : Words.Sign) (n : ℕ) {r : Bool} → Says (load s n) (code_of x) (entry_of x) → i ≡ 0 → r ≡ ltb n count → Decides r (Good count i x)
  judged_load s n {r} (c, e) z p =
      let (a, b) = signed_le s 1 in
      record {
        yes = λ t. record {
          code = omega arith;
          entry = omega (arith, ltb-true n count (sym p ∙ t));
          double = λ o. absurd (omega arith);
          first = λ o. (omega arith, omega arith);
          later = λ o l. o z;
        };
        no = λ f g. omega (arith, ltb-false n count (sym p ∙ f), g.entry);
      }

  pub judged_late : (s : Words.Sign) (n : ℕ) → Says (load s n) (code_of x) (entry_of x) → i ≢ 0 → Decides (eqb i 0) (Good count i x)
  judged_late s n (c, e) l =
      let (a, b) = signed_le s 1 in
      record { yes = λ t. absurd (l (eqb-true i 0 t)); no = λ f g. g.later l (omega arith, omega arith) }

  -- an addition is good anywhere but first, if its entry is there
  pub judged_add : (s : Words.Sign) (n : ℕ) {r : Bool} → Says (add s n) (code_of x) (entry_of x) → i ≢ 0 → r ≡ ltb n count → Decides r (Good count i x)
  judged_add s n {r} (c, e) l p =
      let (a, b) = signed_le s 3 in
      record {
        yes = λ t. record {
          code = omega arith;
          entry = omega (arith, ltb-true n count (sym p ∙ t));
          double = λ o. absurd (omega arith);
          first = λ o. absurd (l o);
          later = λ o h. omega arith;
        };
        no = λ f g. omega (arith, ltb-false n count (sym p ∙ f), g.entry);
      }

  pub judged_early : (s : Words.Sign) (n : ℕ) → Says (add s n) (code_of x) (entry_of x) → i ≡ 0 → Decides (not (eqb i 0)) (Good count i x)
  judged_early s n (c, e) z =
      let (a, b) = signed_le s 3 in
      record {
        yes = λ t. absurd (eqb-false i 0 (not-true (eqb i 0) t) z);
        no = λ f g. let l = g.first z in omega arith;
      }

  -- a bad step's word is bad
  pub judged_bad : Says bad (code_of x) (entry_of x) → Decides false (Good count i x)
  judged_bad s = denies (λ g. ⊎_elim (λ o. omega (arith, g.code)) (λ o. omega (arith, g.double o.0, o.1)) s)

  -- what is not bad is good
  pub good_of : ((Good count i x → ⊥) → ⊥) → Good count i x
  good_of n =
      record {
        code = not_below (λ h. n (λ g. omega (arith, g.code)));
        entry = not_below (λ h. n (λ g. omega (arith, g.entry)));
        double = λ z. zero (ℕ_discrete (entry_of x) 0) z;
        first = λ z. (not_below (λ h. n (λ g. omega (arith, (g.first z).0))), not_below (λ h. n (λ g. omega (arith, (g.first z).1))));
        later = λ m l. n (λ g. g.later m l);
      }
    where
      zero : Dec (entry_of x ≡ 0) → code_of x ≡ 0 → entry_of x ≡ 0
      zero (yes e) z = e
      zero (no o) z = absurd (n (λ g. o (g.double z)))
