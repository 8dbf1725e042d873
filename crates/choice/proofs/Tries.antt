-- The best of the widths, as they are tried one after the other. Assumes nothing.
use mathlib.Core.Path.{◌≡◌, subst}
use Prim.Native.Nat.{ℕ, ◌+◌, ◌<◌, ◌≤◌}
use native.Mathlib.Omega.{arith}
use native.Mathlib.Decide.{ℕ_discrete}
use lib.Dec.{lit≤}
use Rattle.meaning.specs.Digits.{most_width}
use Rattle.meaning.specs.Choosing.{Allowed, Totals, Least}
use Rattle.choice.specs.Best.{Best}
use Rattle.choice.proofs.Totals.{totals_same}

module _ {N n entries : ℕ} where
  -- under 3 there is width 2 alone
  pub best_first : {t : ℕ} → 1 ≤ entries → Totals N n 2 t → Best N n entries 3 2 t
  best_first {t} some f =
      record {
        under = omega arith;
        allowed = record { least = lit≤ tt; most = lit≤ tt; fit = some };
        totals = f;
        least = λ x u l a g. let e = two l a in omega (arith, totals_same (lit≤ tt) f (subst (λ w. Totals N n w u) e g));
        smallest = λ x l a g. a.least;
      }
    where
      two : {x : ℕ} → x < 3 → Allowed entries x → x ≡ 2
      two l a = omega (arith, a.least)

  module _ {v w t : ℕ} (b : Best N n entries v w t) where
    -- a width that is not allowed, or totals no less, changes nothing
    pub best_stays : ((u : ℕ) → Allowed entries v → Totals N n v u → t ≤ u) → Best N n entries (v + 1) w t
    best_stays h =
        record {
          under = omega (arith, b.under);
          allowed = b.allowed;
          totals = b.totals;
          least = λ x u l a g. go x u a g l (ℕ_discrete x v);
          smallest = λ x l a g. go' x a g l (ℕ_discrete x v);
        }
      where
        go : (x u : ℕ) → Allowed entries x → Totals N n x u → x < v + 1 → Dec (x ≡ v) → t ≤ u
        go x u a g l (yes e) = h u (subst (Allowed entries) e a) (subst (λ w. Totals N n w u) e g)
        go x u a g l (no d) = b.least x u (omega arith) a g

        go' : (x : ℕ) → Allowed entries x → Totals N n x t → x < v + 1 → Dec (x ≡ v) → w ≤ x
        go' x a g l (yes e) = omega (arith, b.under)
        go' x a g l (no d) = b.smallest x (omega arith) a g

    -- one that totals less is the best
    pub best_new : {u : ℕ} → Allowed entries v → Totals N n v u → u < t → Best N n entries (v + 1) v u
    best_new {u} fits f less =
        record {
          under = omega arith;
          allowed = fits;
          totals = f;
          least = λ x y l a g. go x y a g l (ℕ_discrete x v);
          smallest = λ x l a g. go' x a g l (ℕ_discrete x v);
        }
      where
        go : (x y : ℕ) → Allowed entries x → Totals N n x y → x < v + 1 → Dec (x ≡ v) → u ≤ y
        go x y a g l (yes e) = omega (arith, totals_same fits.least f (subst (λ w. Totals N n w y) e g))
        go x y a g l (no d) = omega (arith, b.least x y (omega arith) a g)

        go' : (x : ℕ) → Allowed entries x → Totals N n x u → x < v + 1 → Dec (x ≡ v) → v ≤ x
        go' x a g l (yes e) = omega arith
        go' x a g l (no d) = absurd (omega (arith, b.least x u (omega arith) a g))

    -- past the largest width all were tried
    pub best_all : most_width < v → Least N n entries w t
    best_all h =
        record {
          allowed = b.allowed;
          totals = b.totals;
          least = λ x u a g. b.least x u (omega (arith, a.most)) a g;
          smallest = λ x a g. b.smallest x (omega (arith, a.most)) a g;
        }
