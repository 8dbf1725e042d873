-- The rules of the second chip's run: what it answers where one of them is the first, and where none applies.
-- Assumes nothing.
use mathlib.Core.Path.{◌≡◌, refl, ap, ◌∙◌, subst}
use mathlib.Core.Logic.{◌≢◌}
use mathlib.Core.List.{List, [], ◌∷◌, ◌++◌}
use Prim.Native.Nat.{ℕ, ◌*◌, ◌<◌, ◌≤◌}
use native.Mathlib.Omega.{arith}
use lib.ListN.{length, get_or, drop}
use Rattle.meaning.specs.Digits.{entries, listed}
use Rattle.meaning.specs.Sets.{Pair}
use Rattle.std.specs.Prelude.{Result, Ok, Err}
use Rattle.std.specs.Result.{IsErrAnd}
use Rattle.meaning.specs.Refusals.{Rule, First}
use Rattle.meaning.specs.Words.{most_words}
use Rattle.meaning.specs.Multiples.{cost_of}
use Rattle.meaning.specs.Running.{Taking, times}
use Rattle.meaning.specs.SecondChip.{second_value, SecondGood, second_rules, second_multiple, second_multiples_of}
use Rattle.forms.proofs.Refusals.{first_at, first_none}
use Rattle.refusals.specs.declared.Reason.{Reason}
use Rattle.refusals.specs.declared.Refusal.{Refusal}
use Rattle.refusals.specs.Coded.{coded, At}
use Rattle.width.specs.Widths.{Tried}
use Rattle.width.proofs.Widths.{set_fine, set_refused}
use Rattle.walk.specs.Steps.{Reached}
use Rattle.walk.specs.Residues.{residues}
use Rattle.walk.proofs.Translation.{walk_second_is}
use Rattle.run.specs.declared.Cost.{Cost}
use Rattle.run.specs.declared.Ran.{Ran}
use Rattle.run.specs.declared.State.{State}
use Rattle.run.specs.Walks.{table_of, HasResidue, Held}
use Rattle.run.proofs.Runs.{run_refuses, run_held, run_accepts}
use Rattle.second.specs.Promises.{Promise}
use Rattle.second.proofs.Entries.{entry_lt}

module _ (w l : ℕ) (ws : List ℕ) (m g : ℕ) (multiples₀ : List ℕ) where
  abbrev rules : List Rule
  rules = second_rules w l ws m (length multiples₀)

  abbrev count : ℕ
  count = entries l

  abbrev sum : List Taking
  sum = times (second_value count ws) g ∷ []

  abbrev stored : List ℕ
  stored = second_multiples_of count m g

  -- the first rule that applies is answered, and the buffer is as lent
  refuses : (r : Refusal) → First rules (coded r.reason) r.place → Promise w l ws m g multiples₀ (Err r) multiples₀
  refuses = run_refuses rules (2 * count) ws m sum (cost_of count) stored multiples₀

  pub refuses_set : (e : Reason) (r : Result Ran Refusal) → Tried w l (Err e) → IsErrAnd r (At 0 e) → Promise w l ws m g multiples₀ r multiples₀
  refuses_set e (Ok x) none h = absurd h
  refuses_set e (Err r) none (reason, place) =
      let (k, n, u) = set_refused rules e refl none in
      refuses r (rw (ap coded reason ∙ n, place) (first_at rules k 0 u))

  stored_are : stored ≡ listed (second_multiple count m g) 0 (2 * count)
  unfolding second_multiples_of
  stored_are = refl

  -- where none applies, for a count n that is the set's
  module _
      (pair : Pair w l) {n : ℕ} (is : n ≡ count) (some : m ≢ 0) (short : length ws ≤ most_words) (room : 2 * n ≤ length multiples₀)
      (good : (i : ℕ) → i < length ws → SecondGood (2 * n) i (get_or ws i 0)) {multiples : List ℕ} (e : multiples ≡ second_multiples_of n m g ++ drop (2 * n) multiples₀) where
    good_is : (i : ℕ) → i < length ws → SecondGood (2 * count) i (get_or ws i 0)
    good_is i h = subst (λ k. SecondGood (2 * k) i (get_or ws i 0)) is (good i h)

    e_is : multiples ≡ stored ++ drop (2 * count) multiples₀
    e_is = e ∙ ap (λ k. second_multiples_of k m g ++ drop (2 * k) multiples₀) is

    pub all_held : (i : ℕ) → i < length ws → Held (HasResidue m multiples) (get_or ws i 0)
    all_held = run_held rules (2 * count) ws m sum (cost_of count) stored multiples₀ (second_multiple count m g) stored_are (entry_lt count m g (omega arith)) (λ i h. (good_is i h).good) e_is

    pub accepts : {s : State} {cost : Cost} → Reached (residues m) (table_of m multiples) ws s.value s.doublings s.additions
        → (cost.doublings ≡ (cost_of n).doublings) × (cost.additions ≡ (cost_of n).additions)
        → Promise w l ws m g multiples₀ (Ok (record { residue = s.value; doublings = s.doublings; additions = s.additions; cost = cost })) multiples
    accepts h (d, a) =
        run_accepts rules (2 * count) ws m sum (cost_of count) stored multiples₀ (second_multiple count m g) stored_are (entry_lt count m g (omega arith)) (λ i h. (good_is i h).good) e_is
        (first_none rules ((set_fine pair).0, ((set_fine pair).1, (some, ((λ h. omega arith), ((λ h. omega (arith, is)), ((λ p b. b.bad (good_is p b.within)), tt)))))))
        (walk_second_is count m g (omega arith) ws (λ j h. (good_is j h).good.entry))
        h (d ∙ ap (λ k. (cost_of k).doublings) is) (a ∙ ap (λ k. (cost_of k).additions) is)
