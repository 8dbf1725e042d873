-- The law behind every run: where a map from one carrier to another goes along with none, doubles, additions and the tables' entries, it takes the walk of a tape in
-- the first to the walk in the second. And what a walk does by one word more. Assumes nothing.
use mathlib.Core.Path.{◌≡◌, refl, ap, ◌∙◌}
use mathlib.Core.List.{List, [], ◌∷◌, ◌++◌}
use Prim.Native.Nat.{ℕ, suc, ◌<◌}
use native.Mathlib.Omega.{arith}
use lib.ListN.{length, get_or}
use Rattle.meaning.specs.Words.{entry_of, Sign, Step, double, load, add, bad, step_of}
use Rattle.meaning.specs.Walks.{Carrier, Table, taken, walked, walk}
use Rattle.walk.specs.Steps.{Below}
use Rattle.walk.proofs.Words.{step_below}

-- the map h from C to D goes along
pub record Maps {A B : Type 0} (C : Carrier A) (D : Carrier B) (h : A → B) : Type 0 where
  pub none_is : h C.none ≡ D.none
  pub dbl_is : (a : A) → h (C.dbl a) ≡ D.dbl (h a)
  pub add_is : (a b : A) → h (C.add a b) ≡ D.add (h a) (h b)

-- the tables' entries below `count` go along
abbrev pub Tables : {A B : Type 0} → (A → B) → ℕ → Table A → Table B → Type 0
Tables h count t u = (s : Sign) (e : ℕ) → e < count → h (t s e) ≡ u s e

-- every word's entry is below `count`
abbrev pub Within : ℕ → List ℕ → Type 0
Within count ws = (i : ℕ) → i < length ws → entry_of (get_or ws i 0) < count

module _
    {A B : Type 0} {C : Carrier A} {D : Carrier B} {h : A → B} (maps : Maps C D h) (count : ℕ) {t : Table A} {u : Table B} (tables : Tables h count t u) where
  -- one step
  taken_maps : (a : A) (x : Step) → Below count x → h (taken C t a x) ≡ taken D u (h a) x
  unfolding taken
  taken_maps a double l = maps.dbl_is a
  taken_maps a (load s e) l = tables s e l
  taken_maps a (add s e) l = maps.add_is a (t s e) ∙ ap (D.add (h a)) (tables s e l)
  taken_maps a bad l = refl

  -- all words, from anywhere
  walked_maps : (a : A) (ws : List ℕ) → Within count ws → h (walked C t a ws) ≡ walked D u (h a) ws
  unfolding walked
  walked_maps a [] l = refl
  walked_maps a (x ∷ ws) l =
      walked_maps (taken C t a (step_of x)) ws (λ i k. l (suc i) (omega arith))
      ∙ ap (λ b. walked D u b ws) (taken_maps a (step_of x) (step_below count x (l 0 (omega arith))))

  -- the law: the walk of a tape
  pub walk_maps : (ws : List ℕ) → Within count ws → h (walk C t ws) ≡ walk D u ws
  walk_maps ws l = walked_maps C.none ws l ∙ ap (λ b. walked D u b ws) maps.none_is

-- two tables with the same entries give the same walk
pub walk_same : {A : Type 0} (C : Carrier A) (count : ℕ) {t u : Table A} → Tables (λ a. a) count t u → (ws : List ℕ) → Within count ws → walk C t ws ≡ walk C u ws
walk_same {A} C count tables ws l = walk_maps same count tables ws l
  where
    same : Maps C C (λ a. a)
    same = record { none_is = refl; dbl_is = λ a. refl; add_is = λ a b. refl }

-- ---- more words
pub walked_append : {A : Type 0} (C : Carrier A) (t : Table A) (a : A) (vs ws : List ℕ) → walked C t a (vs ++ ws) ≡ walked C t (walked C t a vs) ws
unfolding walked
walked_append C t a [] ws = refl
walked_append C t a (x ∷ vs) ws = walked_append C t (taken C t a (step_of x)) vs ws

pub walked_snoc : {A : Type 0} (C : Carrier A) (t : Table A) (a : A) (ws : List ℕ) (x : ℕ) → walked C t a (ws ++ (x ∷ [])) ≡ taken C t (walked C t a ws) (step_of x)
unfolding walked
walked_snoc C t a ws x = walked_append C t a ws (x ∷ [])
