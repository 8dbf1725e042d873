-- The making of the multiples: over any carrier it gives the entries one after the other, and what its steps cost. Assumes nothing.
use mathlib.Core.Path.{◌≡◌, refl, ap, ◌∙◌}
use mathlib.Core.List.{◌∷◌}
use Prim.Native.Nat.{ℕ, zero, suc, ◌-◌, ◌<◌, ◌≤◌}
use native.Mathlib.Omega.{arith}
use lib.ListN.{replicate}
use Rattle.meaning.specs.Digits.{listed}
use Rattle.meaning.specs.Walks.{Carrier}
use Rattle.meaning.specs.Multiples.{adding, making_of, made, made_from, cost_doublings, cost_additions, cost_of}

-- ---- what is made
module _ {A : Type 0} (C : Carrier A) (f : ℕ → A) (next : (e : ℕ) → C.add (f e) (C.dbl (f 0)) ≡ f (suc e)) where
  -- by additions alone, from the entry e on
  made_on : (n e : ℕ) → made C (C.dbl (f 0)) (f e) (replicate n adding) ≡ listed f e (suc n)
  unfolding made listed
  made_on zero e = refl
  made_on (suc n) e = ap (λ a. f e ∷ made C (C.dbl (f 0)) a (replicate n adding)) (next e) ∙ ap (λ xs. f e ∷ xs) (made_on n (suc e))

  -- where an entry and twice the first give the next, the making from the first gives so many of them
  pub made_listed : (count : ℕ) → 0 < count → made_from C (f 0) count ≡ listed f 0 count
  unfolding made making_of listed
  made_listed zero h = absurd (omega arith)
  made_listed (suc zero) h = refl
  made_listed (suc (suc n)) h = made_on (suc n) 0

-- ---- what it costs
on_doublings : (n : ℕ) → cost_doublings (replicate n adding) ≡ 0
unfolding cost_doublings
on_doublings zero = refl
on_doublings (suc n) = on_doublings n

on_additions : (n : ℕ) → cost_additions (replicate n adding) ≡ n
unfolding cost_additions
on_additions zero = refl
on_additions (suc n) = ap suc (on_additions n)

-- the base alone costs nothing
pub cost_one : (count : ℕ) → count < 2 → ((cost_of count).doublings ≡ 0) × ((cost_of count).additions ≡ 0)
unfolding making_of cost_doublings cost_additions
cost_one zero h = (refl, refl)
cost_one (suc zero) h = (refl, refl)
cost_one (suc (suc n)) h = absurd (omega arith)

-- more multiples cost a doubling, and an addition for each after the first
pub cost_more : (count : ℕ) → 2 ≤ count → ((cost_of count).doublings ≡ 1) × ((cost_of count).additions ≡ count - 1)
unfolding making_of cost_doublings cost_additions
cost_more zero h = absurd (omega arith)
cost_more (suc zero) h = absurd (omega arith)
cost_more (suc (suc n)) h = (ap suc (on_doublings (suc n)), omega (arith, on_additions (suc n)))

-- so few of either
pub cost_few : (count : ℕ) → ((cost_of count).doublings ≤ 1) × ((cost_of count).additions ≤ count)
unfolding making_of cost_doublings cost_additions
cost_few zero = (omega arith, omega arith)
cost_few (suc zero) = (omega arith, omega arith)
cost_few (suc (suc n)) = (omega (arith, on_doublings (suc n)), omega (arith, on_additions (suc n)))
