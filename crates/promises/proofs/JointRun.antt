-- The promise of the joint run: two outcomes that satisfy it for one input are equal, on the plain numbers, on the answer itself and on C's struct; each number exactly when; a
-- refusal leaves the buffer; what the entries cost. Some outcome keeps it at every input. Assumes nothing.
use mathlib.Core.Path.{◌≡◌, refl, ◌∙◌}
use mathlib.Core.Logic.{◌≢◌}
use mathlib.Core.List.{List, [], ◌∷◌}
use Prim.Native.Nat.{ℕ, zero, suc, ◌<◌}
use native.Mathlib.Decide.{dec_lt, ℕ_discrete}
use native.Mathlib.Omega.{arith}
use lib.Dec.{lit<, lit≤}
use lib.IntN.{pos}
use lib.ListN.{length, get_or}
use Rattle.std.specs.Prelude.{Result}
use Rattle.meaning.specs.Refusals.{Rule}
use Rattle.meaning.specs.Words.{most_words, step_of}
use Rattle.meaning.specs.Walks.{taken, walked, additions, Good}
use Rattle.meaning.specs.Running as Running
use Rattle.meaning.specs.Running.{Taking, times}
use Rattle.meaning.specs.JointRunning.{joint_count, pair_at, pair_value, jointly, joint_entries_of, joint_cost, run_joint_rules, RunJoint}
use Rattle.forms.proofs.Refusals.{clear, granted_all, kept_lent}
use Rattle.refusals.specs.declared.Refusal.{Refusal}
use Rattle.run.specs.declared.Ran.{Ran}
use Rattle.run.specs.Outcomes.{answer}
use Rattle.joined.specs.Promises.{Promise}
use Rattle.sarvundole.specs.declared.exported.Ran as Exported
use Rattle.sarvundole.specs.Runs.{ran}
use Rattle.promises.proofs.Exactly.{Exactly, exactly}
use Rattle.promises.proofs.Run.{residue_same, answer_same, by_same, by_kept}
use Rattle.promises.proofs.Exported.{c_ran_same}
use Rattle.promises.proofs.Instances.{first_exists, by, word?}

module _ (ws : List ℕ) (m g h : ℕ) (entries₀ : List ℕ) where
  abbrev rules : List Rule
  rules = run_joint_rules ws m (length entries₀)

  abbrev sum : List Taking
  sum = times (pair_value ws).first g ∷ times (pair_value ws).second h ∷ []

  pub run_joint_plain : (a b : Running.Ran) (es fs : List ℕ) → RunJoint ws m g h entries₀ a es → RunJoint ws m g h entries₀ b fs → (a ≡ b) × (es ≡ fs)
  run_joint_plain = by_same rules joint_count ws m sum joint_cost (joint_entries_of m g h) entries₀

  -- on the answer itself
  pub run_joint_determined : (a b : Result Ran Refusal) (es fs : List ℕ) → Promise ws m g h entries₀ a es → Promise ws m g h entries₀ b fs → (a ≡ b) × (es ≡ fs)
  run_joint_determined a b es fs P Q = let (q, e) = run_joint_plain (answer a) (answer b) es fs P Q in (answer_same a b q, e)

  -- and on C's struct
  pub c_run_joint_determined : (a b : Exported.Ran) (es fs : List ℕ) → RunJoint ws m g h entries₀ (ran a) es → RunJoint ws m g h entries₀ (ran b) fs → (a ≡ b) × (es ≡ fs)
  c_run_joint_determined a b es fs K L = let (q, e) = run_joint_plain (ran a) (ran b) es fs K L in (c_ran_same a b q, e)

  -- ---- demand 1
  pub run_joint_exactly : (a : Running.Ran) (es : List ℕ) → RunJoint ws m g h entries₀ a es → Exactly rules a.refusal a.place
  run_joint_exactly a es K = exactly rules tt _ _ K.first

  pub run_joint_kept : (a : Running.Ran) (es : List ℕ) → RunJoint ws m g h entries₀ a es → a.refusal ≢ 0 → es ≡ entries₀
  run_joint_kept a es K n = K.multiples_are ∙ kept_lent a.refusal _ entries₀ n

  -- ---- two additions for the entries, and no doubling
  pub run_joint_costs : (a : Running.Ran) (es : List ℕ) → RunJoint ws m g h entries₀ a es → a.refusal ≡ 0 → (a.cost.additions ≡ 2) × (a.cost.doublings ≡ 0)
  run_joint_costs a es K z = (K.cost_additions_are ∙ granted_all a.refusal joint_cost.additions z, K.cost_doublings_are ∙ granted_all a.refusal joint_cost.doublings z)

  -- ---- some outcome keeps it
  pub run_joint_kept_by : (a : Running.Ran) × (es : List ℕ) × RunJoint ws m g h entries₀ a es
  run_joint_kept_by =
      let (r, p, f) = first_exists rules (by (ℕ_discrete m 0), λ _. (by (dec_lt most_words (length ws)), λ _. (by (dec_lt (length entries₀) joint_count), λ _. (word? joint_count ws, λ _. tt)))) in
      by_kept rules joint_count ws m sum joint_cost (joint_entries_of m g h) entries₀ r p f (λ z. (clear rules tt r p f z).0)

-- ---- calls that cannot keep the promise
-- an outcome for every input which keeps the promise
pub record JointRunner : Type 0 where
  pub call : (ws : List ℕ) (m g h : ℕ) → List ℕ → Running.Ran × List ℕ
  pub keeps : (ws : List ℕ) (m g h : ℕ) (entries₀ : List ℕ) → RunJoint ws m g h entries₀ (call ws m g h entries₀).0 (call ws m g h entries₀).1

-- there is one
pub joint_runner : JointRunner
joint_runner = record { call = λ ws m g h entries₀. let (a, es, _) = run_joint_kept_by ws m g h entries₀ in (a, es); keeps = λ ws m g h entries₀. let (a, es, K) = run_joint_kept_by ws m g h entries₀ in K }

-- a tape that loads g, modulo 10 on the bases 1 and 2
abbrev loading : List ℕ
loading = 0x1000 ∷ []

abbrev four : List ℕ
four = 0 ∷ 0 ∷ 0 ∷ 0 ∷ []

loading_good : (i : ℕ) → i < 1 → Good joint_count i (get_or loading i 0)
loading_good zero l =
    record { code = lit≤ tt; entry = lit< tt; double = λ z. refl; first = λ z. (lit≤ tt, lit≤ tt); later = λ n z. n refl }
loading_good (suc i) l = absurd (omega arith)

module _ (c : JointRunner) where
  abbrev told : Running.Ran
  told = (c.call loading 10 1 2 four).0

  loading_accepted : told.refusal ≡ 0
  loading_accepted =
      (run_joint_exactly loading 10 1 2 four told _ (c.keeps loading 10 1 2 four)).accepts
      ((λ z. omega arith), ((λ l. omega arith), ((λ l. omega arith), ((λ p b. b.bad (loading_good p b.within)), tt))))

  -- refusing everything
  pub run_joint_not_refusing : ((ws : List ℕ) (m g h : ℕ) (entries₀ : List ℕ) → (c.call ws m g h entries₀).0.refusal ≢ 0) → ⊥
  run_joint_not_refusing f = f loading 10 1 2 four loading_accepted

  -- h taken for g, and g for h
  pub run_joint_not_swapped : ((ws : List ℕ) (m g h : ℕ) (entries₀ : List ℕ) → (c.call ws m g h entries₀).0.refusal ≡ 0 → Running.Residue m (jointly (pos h) (pos g) (pair_value ws)) (c.call ws m g h entries₀).0.residue) → ⊥
  unfolding walked taken step_of pair_at
  run_joint_not_swapped f =
      let right = residue_same 10 (pos 1) told.residue 1 ((c.keeps loading 10 1 2 four).residue_is loading_accepted) (record { quotient = pos 0; is = refl; least = lit< tt }) in
      let wrong = residue_same 10 (pos 2) told.residue 2 (f loading 10 1 2 four loading_accepted) (record { quotient = pos 0; is = refl; least = lit< tt }) in
      omega arith

  -- steps that are not the tape's
  pub run_joint_not_inventing : ((ws : List ℕ) (m g h : ℕ) (entries₀ : List ℕ) → (c.call ws m g h entries₀).0.additions ≡ suc (additions ws)) → ⊥
  run_joint_not_inventing f =
      let right = (c.keeps loading 10 1 2 four).additions_are ∙ granted_all told.refusal (additions loading) loading_accepted in
      omega (arith, f loading 10 1 2 four)
