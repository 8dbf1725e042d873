-- Strings made from zeros by putting one digit after another: what they are worth, and that their weight is the least
-- where each digit lowers the nonadjacent weight of what remains (`Drop`). Both wMOF and the closest form are such strings. Assumes nothing.
use mathlib.Core.Path.{◌≡◌, refl, sym, ap, ◌∙◌}
use mathlib.Core.List.{List, [], ◌∷◌}
use Prim.Native.Nat.{ℕ, zero, suc, ◌+◌, ◌*◌, ◌^◌, ◌<◌, ◌≤◌}
use native.Mathlib.Omega.{arith}
use lib.ListN.{length, get_or, set, replicate}
use lib.IntN.{ℤ, pos, nat_abs, ◌+ℤ◌, ◌*ℤ◌}
use Rattle.laws.proofs.Integers.{parts, diffs, ring}
use Rattle.laws.proofs.Powers.{pow_four}
use Rattle.meaning.specs.Digits.{worth, weight, nonzero}
use Rattle.forms.proofs.Naf.{Digit, Digits, none, gap, some, Naf, even, nonzero_odd}
use Rattle.forms.proofs.Unique.{lemma_S, positive, zero_weight}
use Rattle.forms.proofs.Exists.{naf}
use Rattle.forms.proofs.Least.{naf_least}

-- ---- a digit put on a zero
pub put_worth : (ds : List ℤ) (p : ℕ) (u : ℤ) → p < length ds → get_or ds p (pos 0) ≡ pos 0 → worth (set ds p u) ≡ pos (2 ^ p) *ℤ u +ℤ worth ds
unfolding worth
put_worth [] p u h z = absurd (omega arith)
put_worth (d ∷ ds) zero u h z = let W = worth ds in rw (z, parts u, parts W) (simp diffs (omega ring))
put_worth (d ∷ ds) (suc p) u h z =
    let W = worth ds in
    ap (λ x. d +ℤ pos 2 *ℤ x) (put_worth ds p u (omega arith) z) ∙ rw (parts d, parts u, parts W) (simp diffs (omega ring))

-- it weighs one more
pub put_weight : (ds : List ℤ) (p : ℕ) (u : ℤ) → p < length ds → get_or ds p (pos 0) ≡ pos 0 → nonzero u ≡ 1 → weight (set ds p u) ≡ suc (weight ds)
unfolding weight nonzero
put_weight [] p u h z o = absurd (omega arith)
put_weight (d ∷ ds) zero u h z o = omega (arith, ap nonzero z)
put_weight (d ∷ ds) (suc p) u h z o = omega (arith, put_weight ds p u (omega arith) z o)

-- and keeps to the digits
put_digits : {w : ℕ} {ds : List ℤ} {u : ℤ} (p : ℕ) → Digit w u → Digits w ds → Digits w (set ds p u)
put_digits p D none = none
put_digits zero D (gap s) = some D s
put_digits zero D (some E s) = some D s
put_digits (suc p) D (gap s) = gap (put_digits p D s)
put_digits (suc p) D (some E s) = some E (put_digits p D s)

-- zeros are worth 0
pub zeros_worth : (L : ℕ) → worth (replicate L (pos 0)) ≡ pos 0
unfolding worth
zeros_worth zero = refl
zeros_worth (suc L) = ap (λ x. pos 0 +ℤ pos 2 *ℤ x) (zeros_worth L)

-- and weigh nothing
pub zeros_weight : (L : ℕ) → weight (replicate L (pos 0)) ≡ 0
unfolding weight nonzero
zeros_weight zero = refl
zeros_weight (suc L) = omega (arith, zeros_weight L)

-- and are digits
zeros_digits : {w : ℕ} (L : ℕ) → Digits w (replicate L (pos 0))
zeros_digits zero = none
zeros_digits (suc L) = gap (zeros_digits L)

-- ---- the nonadjacent weight of ρ is below that of R
abbrev pub Drop : ℕ → ℤ → ℤ → Type 0
Drop w R ρ = (k k' : ℕ) → Naf w R k → Naf w ρ k' → k' < k

-- a power of two changes no nonadjacent weight
pub naf_shift : {w k : ℕ} (e : ℕ) (X : ℤ) → Naf w X k → Naf w (pos (2 ^ e) *ℤ X) k
naf_shift zero X N = let e : pos (2 ^ 0) *ℤ X ≡ X = rw (parts X) (simp diffs (omega ring)) in rw e N
naf_shift (suc e) X N = even {Y = pos (2 ^ suc e) *ℤ X} (pos (2 ^ e) *ℤ X) (rw (parts X) (simp diffs (omega ring))) (naf_shift e X N)

module _ (w : ℕ) (two : 2 ≤ w) where
  -- nothing remains
  pub drop_all : (R : ℤ) → 0 < nat_abs R → Drop w R (pos 0)
  drop_all R h k k' N M = let (Q, four) = pow_four w two in omega (arith, zero_weight w Q four M refl, positive w Q four N h)

  -- a block above j places is taken off, and at most half of the lowest place of the block remains
  pub drop_block : (j : ℕ) (R v ρ : ℤ) → R ≡ pos (2 ^ suc j) *ℤ v +ℤ ρ → nat_abs ρ ≤ 2 ^ j → 2 ^ (j + w) ≤ 2 * nat_abs R → Drop w R ρ
  drop_block j R v ρ e l big k k' N M = let (Q, four) = pow_four w two in lemma_S w Q four M j v N e l big

  -- the same of the 2 ^ e fold
  pub drop_scaled : (e : ℕ) (R ρ : ℤ) → Drop w (pos (2 ^ e) *ℤ R) (pos (2 ^ e) *ℤ ρ) → Drop w R ρ
  drop_scaled e R ρ d k k' N M = d k k' (naf_shift e R N) (naf_shift e ρ M)

-- ---- R as a string
pub data Built (w : ℕ) : ℤ → List ℤ → Type 0 where
  blank : {R : ℤ} (L : ℕ) → R ≡ pos 0 → Built w R (replicate L (pos 0))
  put : {R ρ : ℤ} {ds : List ℤ} (p : ℕ) (u : ℤ) → Digit w u → p < length ds → get_or ds p (pos 0) ≡ pos 0 → R ≡ pos (2 ^ p) *ℤ u +ℤ ρ → Drop w R ρ → Built w ρ ds
      → Built w R (set ds p u)

-- it is worth R
pub built_worth : {w : ℕ} {R : ℤ} {ds : List ℤ} → Built w R ds → worth ds ≡ R
built_worth (blank L e) = zeros_worth L ∙ sym e
built_worth (put {ds = ds} p u D h z e d b) = put_worth ds p u h z ∙ ap (λ x. pos (2 ^ p) *ℤ u +ℤ x) (built_worth b) ∙ sym e

-- its digits are w-digits
pub built_digits : {w : ℕ} {R : ℤ} {ds : List ℤ} → Built w R ds → Digits w ds
built_digits (blank L e) = zeros_digits L
built_digits (put p u D h z e d b) = put_digits p D (built_digits b)

-- it is no heavier than the nonadjacent form
built_light : {w : ℕ} → 2 ≤ w → {R : ℤ} {ds : List ℤ} → Built w R ds → (k : ℕ) → Naf w R k → weight ds ≤ k
built_light two (blank L e) k N = omega (arith, zeros_weight L)
built_light {w} two (put {ρ = ρ} {ds = ds} p u D h z e d b) k N =
    let (k', M) = naf w two ρ in
    omega (arith, d k k' N M, built_light two b k' M, put_weight ds p u h z (nonzero_odd u D.half D.odd))

-- its weight is the nonadjacent one
pub built_weight : {w : ℕ} → 2 ≤ w → {R : ℤ} {ds : List ℤ} → Built w R ds → (k : ℕ) → Naf w R k → weight ds ≡ k
built_weight {w} two b k N = omega (arith, built_light two b k N, naf_least w two N (built_digits b) (built_worth b))
