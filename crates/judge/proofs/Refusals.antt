-- The rules of the checks: what a check answers where one of them is the first, and where none applies; and one rule more after the others.
-- Assumes nothing.
use mathlib.Core.Path.{◌≡◌, refl, sym}
use mathlib.Core.List.{List}
use Prim.Native.Nat.{ℕ}
use lib.Dec.{T}
use lib.IntN.{ℤ}
use Rattle.meaning.specs.Digits.{weight, top}
use Rattle.meaning.specs.Refusals.{Rule, Lowest}
use Rattle.meaning.specs.Scalars.{Order}
use Rattle.meaning.specs.Checking.{Crowded, check_rules, nonadjacent_rules, Check}
use Rattle.forms.proofs.Refusals.{Until, number_at, absent, number_some, first_at, clear, first_none, granted_none}
use Rattle.refusals.specs.declared.Refusal.{Refusal}
use Rattle.refusals.specs.Coded.{coded}
use Rattle.digits.specs.declared.Accepted.{Accepted}
use Rattle.digits.specs.Tallies.{answered}
use Rattle.std.specs.Prelude.{Ok, Err}

-- the rule at index k is the first that applies
pub refuses : (rules : List Rule) → T (absent 0 rules) → (ds : List ℤ) (k : ℕ) (r : Refusal) → coded r.reason ≡ number_at rules k → Until rules k r.place → Check rules ds (answered (Err r))
refuses rules t ds k r e u =
    let n = number_some rules t k r.place u in
    rw e (record { first = first_at rules k r.place u; weight_is = sym (granted_none (number_at rules k) (weight ds) n); top_is = sym (granted_none (number_at rules k) (top ds) n) })

-- ---- the nonadjacent check, by what the plain one answers
module _ (w m : ℕ) (o : Order) (s : List ℕ) (ds : List ℤ) (a : Accepted) (c : Check (check_rules w m o s ds) ds (answered (Ok a))) where
  -- 10 is the last rule
  pub until_10 : {p : ℕ} → Lowest (Crowded w ds) p → Until (nonadjacent_rules w m o s ds) 6 p
  until_10 h =
      let (a', (b, (d, (e, (f, (g, _)))))) = clear (check_rules w m o s ds) tt 0 0 c.first refl in
      (a', (b, (d, (e, (f, (g, h))))))

  -- the string is accepted
  pub plain_accepts : ((p : ℕ) → Crowded w ds p → ⊥) → Check (nonadjacent_rules w m o s ds) ds (answered (Ok a))
  plain_accepts n =
      let (a', (b, (d, (e, (f, (g, _)))))) = clear (check_rules w m o s ds) tt 0 0 c.first refl in
      record { first = first_none (nonadjacent_rules w m o s ds) (a', (b, (d, (e, (f, (g, (n, tt))))))); weight_is = c.weight_is; top_is = c.top_is }
