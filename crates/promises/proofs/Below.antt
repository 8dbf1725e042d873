-- The promise of the recode call that takes a group's order: two outcomes that satisfy it for one input are equal; where the scalar lies under the order the outcome is the plain
-- call's; and an accepted scalar does. Assumes nothing.
use mathlib.Core.Path.{◌≡◌}
use mathlib.Core.List.{List}
use Prim.Native.Nat.{ℕ, ◌<◌}
use native.Mathlib.Omega.{arith}
use lib.IntN.{ℤ}
use lib.ListN.{length, take, drop}
use Rattle.laws.proofs.Choices.{not_below}
use Rattle.meaning.specs.Scalars.{Order, highest_first, number}
use Rattle.meaning.specs.Refusals.{First}
use Rattle.meaning.specs.Recoding.{recode_rules, group_rules, below_rules, RecodeBelow}
use Rattle.forms.proofs.Refusals.{Clear, clear, first_without}
use Rattle.promises.proofs.Recode as Recoding
use Rattle.promises.proofs.Recode.{Outcome, determined_by, recode_determined}

-- the outcome satisfies the promise
abbrev pub Keeps : (form w l : ℕ) (order : Order) (s group : List ℕ) (digits₀ : List ℤ) (marks₀ : List ℕ) → Outcome → Type 0
Keeps form w l order s group digits₀ marks₀ o = RecodeBelow form w l order s group digits₀ marks₀ o.tally o.digits o.marks

module _ (form w l : ℕ) (order : Order) (s group : List ℕ) (places words : ℕ) where
  -- where nothing is refused, the order is one and the scalar lies under it
  pub below_fine : {r p : ℕ} → First (below_rules form w l order s group places words) r p → r ≡ 0 → Clear (group_rules order s group)
  below_fine {r} {p} f z = let (_, (_, (_, (_, (a, (b, _)))))) = clear (below_rules form w l order s group places words) tt r p f z in (a, (b, tt))

  -- and then the rules are the plain call's
  pub without_group : {r p : ℕ} → Clear (group_rules order s group) → First (below_rules form w l order s group places words) r p → First (recode_rules form w l s places words) r p
  without_group {r} {p} c f = first_without (take 4 (recode_rules form w l s places words)) (group_rules order s group) (drop 4 (recode_rules form w l s places words)) r p (λ _. c) f

module _ (form w l : ℕ) (order : Order) (s group : List ℕ) (digits₀ : List ℤ) (marks₀ : List ℕ) where
  -- two outcomes that keep the promise are equal, accepted or refused
  pub below_determined : (o o' : Outcome) → Keeps form w l order s group digits₀ marks₀ o → Keeps form w l order s group digits₀ marks₀ o' → o ≡ o'
  below_determined = determined_by (group_rules order s group) form w l order s digits₀ marks₀

  module _ (o : Outcome) (K : Keeps form w l order s group digits₀ marks₀ o) where
    -- under a good order the call keeps the plain call's promise, accepted or refused, and so leaves what the plain call leaves, in every field and buffer
    pub below_keeps : Clear (group_rules order s group) → Recoding.Keeps form w l order s digits₀ marks₀ o
    below_keeps c = record { first = without_group form w l order s group (length digits₀) (length marks₀) c K.first; accepted = K.accepted; refused = K.refused }

    pub below_same : Clear (group_rules order s group) → (o' : Outcome) → Recoding.Keeps form w l order s digits₀ marks₀ o' → o ≡ o'
    below_same c o' K' = recode_determined form w l order s digits₀ marks₀ o o' (below_keeps c) K'

    module _ (z : o.tally.refusal ≡ 0) where
      fine : Clear (group_rules order s group)
      fine = below_fine form w l order s group (length digits₀) (length marks₀) K.first z

      -- an accepted scalar lies under the order, as a number
      pub below_under : number order s < number highest_first group
      below_under = not_below (λ h. fine.1.0 (omega arith))

      -- and the answer is the plain call's, digit for digit and mark for mark, with its weight and top
      pub below_plain : Recoding.Keeps form w l order s digits₀ marks₀ o
      below_plain = below_keeps fine

      pub below_answer : (o' : Outcome) → Recoding.Keeps form w l order s digits₀ marks₀ o' → o ≡ o'
      below_answer = below_same fine
