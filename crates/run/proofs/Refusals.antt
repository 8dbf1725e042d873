-- The rules of the call: what it answers where one of them is the first, and where none applies.
-- Assumes nothing.
use mathlib.Core.Path.{◌≡◌, refl, ap, ◌∙◌, subst}
use mathlib.Core.Logic.{inr}
use mathlib.Core.List.{List, [], ◌∷◌, ◌++◌}
use Prim.Native.Nat.{ℕ, ◌<◌, ◌≤◌}
use native.Mathlib.Omega.{arith}
use lib.ListN.{length, get_or, drop}
use Rattle.std.specs.Prelude.{Result, Ok, Err}
use Rattle.std.specs.Result.{IsErrAnd}
use Rattle.laws.proofs.Choices.{not_below}
use Rattle.meaning.specs.Digits.{entries, listed}
use Rattle.meaning.specs.Sets.{Pair}
use Rattle.meaning.specs.Refusals.{Rule, First, set_rules}
use Rattle.meaning.specs.Words.{most_words}
use Rattle.meaning.specs.Walks.{tape_value, Good}
use Rattle.meaning.specs.Multiples.{cost_of}
use Rattle.meaning.specs.Running.{times, step_rules, run_rules, multiples_of}
use Rattle.forms.proofs.Refusals.{first_at, clear}
use Rattle.refusals.specs.declared.Reason.{Reason}
use Rattle.refusals.specs.declared.Refusal.{Refusal}
use Rattle.refusals.specs.Coded.{coded, At}
use Rattle.width.specs.Widths.{Tried}
use Rattle.width.proofs.Widths.{set_fine, set_refused}
use Rattle.walk.specs.Steps.{Reached}
use Rattle.walk.specs.Residues.{residues}
use Rattle.walk.proofs.Residues.{walk_residue_is}
use Rattle.run.specs.declared.Cost.{Cost}
use Rattle.run.specs.declared.Ran.{Ran}
use Rattle.run.specs.declared.State.{State}
use Rattle.run.specs.Outcomes.{Promise}
use Rattle.run.specs.Walks.{table_of, HasResidue, Held}
use Rattle.run.proofs.Words.{good_of}
use Rattle.run.proofs.Multiples.{stored, stored_lt}
use Rattle.run.proofs.Runs.{run_refuses, run_held, run_accepts}

-- ---- the steps' rules
-- where none of them applies
pub record Fit (count : ℕ) (ws : List ℕ) (m room : ℕ) : Type 0 where
  pub some : 0 < m
  pub short : length ws ≤ most_words
  pub room_is : count ≤ room
  pub good : (i : ℕ) → i < length ws → Good count i (get_or ws i 0)

pub fit : (count : ℕ) (ws : List ℕ) (m room : ℕ) → First (step_rules count ws m room) 0 0 → Fit count ws m room
fit count ws m room f =
    let (some, (short, (room_is, (bad, _)))) = clear (step_rules count ws m room) tt 0 0 f refl in
    record {
      some = not_below (λ h. some (omega arith));
      short = not_below short;
      room_is = not_below room_is;
      good = λ i h. good_of count i (get_or ws i 0) (λ n. bad i (record { within = h; bad = n }));
    }

-- after those of a set, which do not apply
pub first_steps : {w l : ℕ} (steps : List Rule) (r p : ℕ) → Pair w l → First steps r p → First (set_rules w l ++ steps) r p
first_steps steps r p pair f = let (width, set) = set_fine pair in inr (width, inr (set, f))

-- ---- the call
module _ (w l : ℕ) (ws : List ℕ) (m g : ℕ) (multiples₀ : List ℕ) where
  abbrev rules : List Rule
  rules = run_rules w l ws m (length multiples₀)

  abbrev count : ℕ
  count = entries l

  -- the first rule that applies is answered, and the buffer is as lent
  refuses : (r : Refusal) → First rules (coded r.reason) r.place → Promise w l ws m g multiples₀ (Err r) multiples₀
  refuses = run_refuses rules count ws m (times (tape_value ws) g ∷ []) (cost_of count) (multiples_of count m g) multiples₀

  pub refuses_set : (e : Reason) (r : Result Ran Refusal) → Tried w l (Err e) → IsErrAnd r (At 0 e) → Promise w l ws m g multiples₀ r multiples₀
  refuses_set e (Ok x) none h = absurd h
  refuses_set e (Err r) none (reason, place) =
      let (k, n, u) = set_refused rules e refl none in
      refuses r (rw (ap coded reason ∙ n, place) (first_at rules k 0 u))

  several_are : multiples_of count m g ≡ listed (stored m g) 0 count
  unfolding multiples_of
  several_are = refl

  -- where none applies, for a count n that is the set's
  module _ (pair : Pair w l) {n : ℕ} (is : n ≡ count) (f : First (step_rules n ws m (length multiples₀)) 0 0) {multiples : List ℕ} (e : multiples ≡ multiples_of n m g ++ drop n multiples₀) where
    first : First (step_rules count ws m (length multiples₀)) 0 0
    first = subst (λ k. First (step_rules k ws m (length multiples₀)) 0 0) is f

    steps : Fit count ws m (length multiples₀)
    steps = fit count ws m (length multiples₀) first

    stored_are : multiples ≡ multiples_of count m g ++ drop count multiples₀
    stored_are = e ∙ ap (λ k. multiples_of k m g ++ drop k multiples₀) is

    pub all_held : (i : ℕ) → i < length ws → Held (HasResidue m multiples) (get_or ws i 0)
    all_held = run_held rules count ws m (times (tape_value ws) g ∷ []) (cost_of count) (multiples_of count m g) multiples₀ (stored m g) several_are (stored_lt m g steps.some) steps.good stored_are

    pub accepts : {s : State} {cost : Cost} → Reached (residues m) (table_of m multiples) ws s.value s.doublings s.additions
        → (cost.doublings ≡ (cost_of n).doublings) × (cost.additions ≡ (cost_of n).additions)
        → Promise w l ws m g multiples₀ (Ok (record { residue = s.value; doublings = s.doublings; additions = s.additions; cost = cost })) multiples
    accepts h (d, a) =
        run_accepts rules count ws m (times (tape_value ws) g ∷ []) (cost_of count) (multiples_of count m g) multiples₀ (stored m g) several_are (stored_lt m g steps.some) steps.good stored_are
        (first_steps (step_rules count ws m (length multiples₀)) 0 0 pair first) (walk_residue_is m g steps.some count ws (λ j h. (steps.good j h).entry))
        h (d ∙ ap (λ k. (cost_of k).doublings) is) (a ∙ ap (λ k. (cost_of k).additions) is)
