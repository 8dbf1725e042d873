-- The rules of the call: what it answers where one of them is the first, and where none applies.
-- Assumes nothing.
use mathlib.Core.Path.{◌≡◌, refl}
use mathlib.Core.List.{List, [], ◌∷◌, ◌++◌}
use Prim.Native.Nat.{ℕ, ◌<◌}
use lib.ListN.{length, get_or, drop}
use Rattle.meaning.specs.Digits.{listed}
use Rattle.std.specs.Prelude.{Ok}
use Rattle.meaning.specs.Refusals.{Rule, First}
use Rattle.meaning.specs.Running.{Taking, times}
use Rattle.meaning.specs.JointRunning.{joint_count, pair_value, joint_entry, joint_entries_of, joint_cost, run_joint_rules}
use Rattle.walk.specs.Steps.{Reached}
use Rattle.walk.specs.Residues.{residues}
use Rattle.walk.proofs.Pairs.{walk_joint_is}
use Rattle.run.specs.declared.State.{State}
use Rattle.run.specs.Walks.{table_of, HasResidue, Held}
use Rattle.run.proofs.Refusals.{Fit, fit}
use Rattle.run.proofs.Runs.{run_held, run_accepts}
use Rattle.joined.specs.Promises.{Promise}
use Rattle.joined.proofs.Entries.{entry_lt}

module _ (ws : List ℕ) (m g h : ℕ) (entries₀ : List ℕ) where
  abbrev rules : List Rule
  rules = run_joint_rules ws m (length entries₀)

  abbrev sum : List Taking
  sum = times (pair_value ws).first g ∷ times (pair_value ws).second h ∷ []

  entries_are : joint_entries_of m g h ≡ listed (joint_entry m g h) 0 joint_count
  unfolding joint_entries_of
  entries_are = refl

  -- where none applies, and the entries are stored
  module _ (f : First rules 0 0) {entries : List ℕ} (e : entries ≡ joint_entries_of m g h ++ drop joint_count entries₀) where
    steps : Fit joint_count ws m (length entries₀)
    steps = fit joint_count ws m (length entries₀) f

    pub all_held : (i : ℕ) → i < length ws → Held (HasResidue m entries) (get_or ws i 0)
    all_held = run_held rules joint_count ws m sum joint_cost (joint_entries_of m g h) entries₀ (joint_entry m g h) entries_are (entry_lt m g h steps.some) steps.good e

    pub accepts : {s : State} → Reached (residues m) (table_of m entries) ws s.value s.doublings s.additions
        → Promise ws m g h entries₀ (Ok (record { residue = s.value; doublings = s.doublings; additions = s.additions; cost = record { doublings = 0; additions = 2 } })) entries
    accepts r =
        run_accepts rules joint_count ws m sum joint_cost (joint_entries_of m g h) entries₀ (joint_entry m g h) entries_are (entry_lt m g h steps.some) steps.good e
        f (walk_joint_is m g h steps.some joint_count ws (λ i l. (steps.good i l).entry)) r refl refl
