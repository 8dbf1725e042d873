-- What every run over residues answers, once: where one of its rules is the first that applies, and where none does. Assumes nothing.
use mathlib.Core.Path.{◌≡◌, refl, sym, ap, ◌∙◌, subst}
use mathlib.Core.List.{List, ◌++◌}
use Prim.Native.Nat.{ℕ, ◌-◌, ◌%◌, ◌<◌}
use native.Mathlib.Omega.{arith}
use lib.ListN.{length, get_or, drop, length-append}
use Rattle.meaning.specs.Digits.{listed}
use Rattle.meaning.specs.Refusals.{Rule, First}
use Rattle.meaning.specs.Words.{entry_of, plus, minus}
use Rattle.meaning.specs.Walks.{walk, doublings, additions, Good}
use Rattle.meaning.specs.Multiples as Multiples
use Rattle.meaning.specs.Running as Running
use Rattle.meaning.specs.Running.{Taking, total, RunBy}
use Rattle.forms.proofs.Listed.{listed_length, listed_front}
use Rattle.forms.proofs.Refusals.{granted_none, kept_lent}
use Rattle.std.specs.Prelude.{Ok, Err}
use Rattle.refusals.specs.declared.Refusal.{Refusal}
use Rattle.refusals.specs.Coded.{coded}
use Rattle.walk.specs.Steps.{Reached}
use Rattle.walk.specs.Residues.{residues, negatable}
use Rattle.walk.proofs.Walk.{Tables, walk_same}
use Rattle.run.specs.declared.Cost.{Cost}
use Rattle.run.specs.declared.State.{State}
use Rattle.run.specs.Outcomes.{answer}
use Rattle.run.specs.Walks.{entry_in, table_of, HasResidue, Held}
use Rattle.refusals.proofs.Coded.{coded_some}

module _ (rules : List Rule) (count : ℕ) (ws : List ℕ) (m : ℕ) (sum : List Taking) (cost : Multiples.Cost) (stored multiples₀ : List ℕ) where
  -- the first rule that applies is answered, and the buffer is as lent
  pub run_refuses : (r : Refusal) → First rules (coded r.reason) r.place → RunBy rules count ws m sum cost stored multiples₀ (answer (Err r)) multiples₀
  run_refuses r f =
      let i = coded r.reason in
      let n = coded_some r.reason in
      record {
        first = f;
        residue_is = λ z. absurd (n z);
        residue_none = λ z. refl;
        doublings_are = sym (granted_none i (doublings ws) n);
        additions_are = sym (granted_none i (additions ws) n);
        cost_doublings_are = sym (granted_none i cost.doublings n);
        cost_additions_are = sym (granted_none i cost.additions n);
        multiples_are = sym (kept_lent i (stored ++ drop count multiples₀) multiples₀ n);
      }

  -- where every word is good, and the entries, which are residues, are stored in front of what was lent
  module _
      (entry : ℕ → ℕ) (list : stored ≡ listed entry 0 count) (reduced : (e : ℕ) → entry e < m) (good : (i : ℕ) → i < length ws → Good count i (get_or ws i 0))
      {multiples : List ℕ} (e : multiples ≡ stored ++ drop count multiples₀) where
    -- each of them
    held_at : (j : ℕ) → j < count → entry_in multiples j ≡ entry j
    held_at j h = ap (λ xs. entry_in xs j) (e ∙ ap (λ xs. xs ++ drop count multiples₀) list) ∙ listed_front entry count j 0 (drop count multiples₀) h

    -- as the table that the walk asks for
    held_tables : Tables (λ a. a) count (negatable m entry) (table_of m multiples)
    held_tables plus j h = sym (held_at j h)
    held_tables minus j h = ap (λ a. (m - a) % m) (sym (held_at j h))

    -- then every word can be taken
    pub run_held : (i : ℕ) → i < length ws → Held (HasResidue m multiples) (get_or ws i 0)
    run_held i h =
        let x = get_or ws i 0 in
        let there = (good i h).entry in
        record {
          entry =
              record {
                within = subst (λ xs. entry_of x < length xs) (sym e) (omega (arith, length-append stored (drop count multiples₀), ap length list, listed_length entry 0 count));
                reduced = subst (λ v. v < m) (sym (held_at (entry_of x) there)) (reduced (entry_of x));
              };
          double = (good i h).double;
        }

    -- and if no rule applies: the residue, the counts and the cost
    pub run_accepts : {s : State} {c : Cost} → First rules 0 0 → Running.Residue m (total sum) (walk (residues m) (negatable m entry) ws)
        → Reached (residues m) (table_of m multiples) ws s.value s.doublings s.additions → c.doublings ≡ cost.doublings → c.additions ≡ cost.additions
        → RunBy rules count ws m sum cost stored multiples₀ (answer (Ok (record { residue = s.value; doublings = s.doublings; additions = s.additions; cost = c }))) multiples
    run_accepts {s} f v h d n =
        let value : walk (residues m) (negatable m entry) ws ≡ s.value = walk_same (residues m) count held_tables ws (λ j h. (good j h).entry) ∙ sym h.value_is in
        record {
          first = f;
          residue_is = λ _. subst (λ x. Running.Residue m (total sum) x) value v;
          residue_none = λ n. absurd (n refl);
          doublings_are = h.doublings_are;
          additions_are = h.additions_are;
          cost_doublings_are = d;
          cost_additions_are = n;
          multiples_are = e;
        }
