-- What the multiples cost, from the promise of run: the steps that are counted make the multiples that are stored; they are one addition fewer than the (l + 1) / 2 entries of a
-- set, and one doubling where its largest digit l is above 1; at a whole width 2 ^ (w - 2) - 1 additions, and the doubling where the width is above 2. Assumes nothing.
use mathlib.Core.Path.{◌≡◌, refl, sym, ap, ◌∙◌}
use mathlib.Core.Logic.{◌≢◌}
use mathlib.Core.List.{List}
use Prim.Native.Nat.{ℕ, suc, ◌+◌, ◌-◌, ◌/◌, ◌%◌, ◌^◌, ◌<◌}
use native.Mathlib.Decide.{dec_lt}
use native.Mathlib.Omega.{arith}
use lib.ListN.{length}
use lib.Pow.{pow_mono}
use Rattle.meaning.specs.Digits.{largest, entries}
use Rattle.meaning.specs.Multiples.{made_from, Cost, cost_of}
use Rattle.meaning.specs.Running.{multiples_of, run_rules, Run, Ran}
use Rattle.forms.proofs.Refusals.{clear, granted_all, granted_none}
use Rattle.width.proofs.Widths.{entries_whole, pair_of}
use Rattle.walk.specs.Residues.{residues}
use Rattle.walk.proofs.Multiples.{made_listed, cost_one, cost_more}
use Rattle.run.proofs.Multiples.{stored, stored_first, stored_next}

-- the making whose steps are counted, over residues from the base's, gives the multiples that are stored
pub multiples_made : (count m g : ℕ) → 0 < count → made_from (residues m) (g % m) count ≡ multiples_of count m g
unfolding multiples_of
multiples_made count m g h = ap (λ a. made_from (residues m) a count) (stored_first m g) ∙ made_listed (residues m) (stored m g) next count h
  where
    next : (e : ℕ) → (stored m g e + (stored m g 0 + stored m g 0) % m) % m ≡ stored m g (suc e)
    next e = stored_next m g e refl (ap (λ a. (a + a) % m) (sym (stored_first m g))) ∙ ap (stored m g) (omega arith)

-- the cost of a set's multiples
pub record Costs (l : ℕ) (c : Cost) : Type 0 where
  pub additions_are : c.additions ≡ (l + 1) / 2 - 1
  pub doubling_above : 1 < l → c.doublings ≡ 1
  pub doubling_least : l ≡ 1 → c.doublings ≡ 0

-- what `cost_of` counts is that
pub set_costs : (l : ℕ) → l % 2 ≡ 1 → Costs l (cost_of (entries l))
set_costs l odd = go (dec_lt 1 l)
  where
    go : Dec (1 < l) → Costs l (cost_of (entries l))
    go (yes h) =
        let (d, n) = cost_more (entries l) (omega arith) in
        record { additions_are = n; doubling_above = λ _. d; doubling_least = λ e. absurd (omega arith) }
    go (no n) =
        let (d, k) = cost_one (entries l) (omega arith) in
        record { additions_are = omega (arith, k); doubling_above = λ h. absurd (n h); doubling_least = λ _. d }

module _ (w l : ℕ) {ws : List ℕ} {m g : ℕ} {multiples₀ multiples : List ℕ} (r : Ran) (K : Run w l ws m g multiples₀ r multiples) where
  -- an accepted run reports it
  pub run_costs : r.refusal ≡ 0 → Costs l r.cost
  run_costs z =
      let pair = pair_of w l (clear (run_rules w l ws m (length multiples₀)) tt r.refusal r.place K.first z).1.0 in
      let C = set_costs l pair.between.odd in
      let d = K.cost_doublings_are ∙ granted_all r.refusal (cost_of (entries l)).doublings z in
      let n = K.cost_additions_are ∙ granted_all r.refusal (cost_of (entries l)).additions z in
      record { additions_are = n ∙ C.additions_are; doubling_above = λ h. d ∙ C.doubling_above h; doubling_least = λ e. d ∙ C.doubling_least e }

  -- at a whole width as many additions as it has digits above 1, and the doubling where it is above 2
  pub run_costs_whole : l ≡ largest w → r.refusal ≡ 0 → (r.cost.additions ≡ 2 ^ (w - 2) - 1) × (2 < w → r.cost.doublings ≡ 1)
  run_costs_whole e z =
      let pair = pair_of w l (clear (run_rules w l ws m (length multiples₀)) tt r.refusal r.place K.first z).1.0 in
      let C = run_costs z in
      let two = pair.between.wide in
      (C.additions_are ∙ ap (λ t. t - 1) (ap entries e ∙ entries_whole w two), λ h. C.doubling_above (omega (arith, e, pow_mono {i = 2} {j = w - 1} (omega arith))))

  -- and a refused one reports none
  pub run_costs_none : r.refusal ≢ 0 → (r.cost.doublings ≡ 0) × (r.cost.additions ≡ 0)
  run_costs_none n =
      (K.cost_doublings_are ∙ granted_none r.refusal (cost_of (entries l)).doublings n, K.cost_additions_are ∙ granted_none r.refusal (cost_of (entries l)).additions n)
