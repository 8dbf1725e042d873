-- A run's steps, over any carrier: what one word does, by its step, and what the words before index i have done. A loop keeps `Walking`. Assumes nothing.
use mathlib.Core.Path.{◌≡◌, refl, sym, ap, ◌∙◌, subst}
use mathlib.Core.Logic.{inl, inr}
use mathlib.Core.List.{List, [], ◌∷◌, ◌++◌}
use Prim.Native.Nat.{ℕ, ◌+◌, ◌<◌, ◌≤◌}
use native.Mathlib.Numerals.{add-one}
use native.Mathlib.Omega.{arith}
use lib.ListN.{length, get_or, take}
use lib.Seq.{take-suc, take_all}
use Rattle.meaning.specs.Words.{code_of, entry_of, Sign, Step, double, load, add, bad, step_of}
use Rattle.meaning.specs.Walks.{Carrier, Table, taken, walked, walk, doublings, additions}
use Rattle.walk.specs.Steps.{is_double, is_addition, Stepped, Reached}
use Rattle.walk.proofs.Words.{Says, step_says, Counts, counts_double, counts_load, counts_add, counts_over, counts_few}
use Rattle.walk.proofs.Walk.{walked_snoc}

-- ---- one word, by its step
module _ {A : Type 0} (C : Carrier A) (t : Table A) (x : ℕ) (a : A) (d k : ℕ) where
  -- what it does, where the step is y
  does : {b : A} (y : Step) {f l d' k' : ℕ} → step_of x ≡ y → b ≡ taken C t a y → Counts x f l → d' ≡ d + f → k' ≡ k + l → Stepped C t x a d k b d' k'
  does y e v c p q =
      record {
        value_is = v ∙ ap (taken C t a) (sym e);
        doublings_are = omega (arith, c.doubles);
        additions_are = omega (arith, c.adds);
      }

  said : (y : Step) → step_of x ≡ y → Says y (code_of x) (entry_of x)
  said y e = subst (λ s. Says s (code_of x) (entry_of x)) e (step_says x)

  pub steps_double : {b : A} → step_of x ≡ double → b ≡ C.dbl a → Stepped C t x a d k b (d + 1) k
  unfolding taken
  steps_double e v = does double e v (counts_double x (said double e).0) refl (omega arith)

  pub steps_load : {b : A} (s : Sign) (n : ℕ) → step_of x ≡ load s n → b ≡ t s n → Stepped C t x a d k b d k
  unfolding taken
  steps_load s n e v = does (load s n) e v (counts_load x s (said (load s n) e).0) (omega arith) (omega arith)

  pub steps_add : {b : A} (s : Sign) (n : ℕ) → step_of x ≡ add s n → b ≡ C.add a (t s n) → Stepped C t x a d k b d (k + 1)
  unfolding taken
  steps_add s n e v = does (add s n) e v (counts_add x s (said (add s n) e).0) (omega arith) refl

  -- a bad word does nothing, where a double has no entry
  pub steps_bad : (code_of x ≡ 0 → entry_of x ≡ 0) → step_of x ≡ bad → Stepped C t x a d k a d k
  unfolding taken
  steps_bad n e = go (said bad e)
    where
      go : Says bad (code_of x) (entry_of x) → Stepped C t x a d k a d k
      go (inl l) = does bad e refl (counts_over x l) (omega arith) (omega arith)
      go (inr (z, l)) = absurd (omega (arith, n z))

-- ---- the words before index i
doublings_snoc : (ws : List ℕ) (x : ℕ) → doublings (ws ++ (x ∷ [])) ≡ doublings ws + is_double x
unfolding doublings
doublings_snoc [] x = omega arith
doublings_snoc (y ∷ ws) x = omega (arith, doublings_snoc ws x)

additions_snoc : (ws : List ℕ) (x : ℕ) → additions (ws ++ (x ∷ [])) ≡ additions ws + is_addition x
unfolding additions
additions_snoc [] x = omega arith
additions_snoc (y ∷ ws) x = omega (arith, additions_snoc ws x)

-- what they have reached
pub record Walking {A : Type 0} (C : Carrier A) (t : Table A) (ws : List ℕ) (a : A) (d k i : ℕ) : Type 0 where
  pub within : i ≤ length ws
  pub doublings_few : d ≤ i
  pub additions_few : k ≤ i
  pub reached : Reached C t (take i ws) a d k

module _ {A : Type 0} (C : Carrier A) (t : Table A) (ws : List ℕ) where
  -- no words yet
  pub walks_none : {a : A} → a ≡ C.none → Walking C t ws a 0 0 0
  unfolding walked doublings additions
  walks_none p =
      record {
        within = omega arith;
        doublings_few = omega arith;
        additions_few = omega arith;
        reached = record { value_is = p; doublings_are = refl; additions_are = refl };
      }

  -- one word more
  pub walks_more : {a b : A} {d k f l i : ℕ} → Walking C t ws a d k i → i < length ws → Stepped C t (get_or ws i 0) a d k b f l → Walking C t ws b f l (i + 1)
  walks_more {a} {b} {d} {k} {f} {l} {i} h n s =
      let x = get_or ws i 0 in
      let e : take (i + 1) ws ≡ take i ws ++ (x ∷ []) = rw add-one (take-suc ws i 0 n) in
      record {
        within = omega arith;
        doublings_few = omega (arith, h.doublings_few, s.doublings_are, (counts_few x).0);
        additions_few = omega (arith, h.additions_few, s.additions_are, (counts_few x).1);
        reached =
            record {
              value_is =
                  s.value_is ∙ ap (λ v. taken C t v (step_of x)) h.reached.value_is ∙ sym (walked_snoc C t C.none (take i ws) x)
                  ∙ ap (walk C t) (sym e);
              doublings_are = s.doublings_are ∙ omega (arith, h.reached.doublings_are, doublings_snoc (take i ws) x, ap doublings e);
              additions_are = s.additions_are ∙ omega (arith, h.reached.additions_are, additions_snoc (take i ws) x, ap additions e);
            };
      }

  -- all words
  pub walks_all : {a : A} {d k i : ℕ} → Walking C t ws a d k i → length ws ≤ i → Reached C t ws a d k
  walks_all {a} {d} {k} {i} h l = subst (λ xs. Reached C t xs a d k) (take_all i ws l) h.reached
