-- The multiples of the base that a chip holds, over any carrier: how they are made from it, and what that costs.
-- Assumes nothing.
use Rattle.std.specs.Prelude.{List, [], ◌∷◌, ℕ, zero, suc, replicate}
use Rattle.meaning.specs.Walks.{Carrier}

-- a step of the making: the base is doubled, or that double is added to the multiple made last
pub data Making : Type 0 where
  doubling : Making
  adding : Making

-- the steps for `count` multiples, at least one: the base is the first; to make 3g, 5g and so on from g one first doubles g, then adds the double step by step
unfoldable pub making_of : (count : ℕ) → List Making
making_of zero = []
making_of (suc zero) = []
making_of (suc (suc n)) = doubling ∷ replicate (suc n) adding

-- what steps make, from the multiple a on, where t is the double
unfoldable pub made : {A : Type 0} → Carrier A → (t a : A) → List Making → List A
made C t a [] = a ∷ []
made C t a (doubling ∷ ks) = made C (C.dbl a) a ks
made C t a (adding ∷ ks) = a ∷ made C t (C.add a t) ks

-- `count` multiples of the base g
abbrev pub made_from : {A : Type 0} → Carrier A → (g : A) (count : ℕ) → List A
made_from C g count = made C C.none g (making_of count)

-- what steps cost: the doublings and the additions among them
unfoldable pub cost_doublings : List Making → ℕ
cost_doublings [] = 0
cost_doublings (doubling ∷ ks) = suc (cost_doublings ks)
cost_doublings (adding ∷ ks) = cost_doublings ks

unfoldable pub cost_additions : List Making → ℕ
cost_additions [] = 0
cost_additions (doubling ∷ ks) = cost_additions ks
cost_additions (adding ∷ ks) = suc (cost_additions ks)

-- as a run reports it
pub record Cost : Type 0 where
  pub doublings : ℕ
  pub additions : ℕ

-- the cost of `count` multiples
abbrev pub cost_of : (count : ℕ) → Cost
cost_of count = record { doublings = cost_doublings (making_of count); additions = cost_additions (making_of count) }
