-- Least weight and the bound, for wNAF, wMOF and the closest form under either tie rule: each has the nonadjacent weight of its number, so no string of D_w digits
-- that is worth the number is lighter, whatever its length, and n + 1 places hold at most (n + w) / w nonzeros. Assumes nothing.
use mathlib.Core.Path.{◌≡◌, sym, ◌∙◌}
use mathlib.Core.List.{List}
use Prim.Native.Nat.{ℕ, ◌+◌, ◌/◌, ◌^◌, ◌<◌, ◌≤◌}
use native.Mathlib.Omega.{arith}
use lib.Dec.{T}
use lib.IntN.{ℤ, pos}
use Rattle.laws.proofs.Powers.{pow_four}
use Rattle.meaning.specs.Digits.{worth, weight, all_in, largest}
use Rattle.meaning.specs.Wnaf.{Wnaf}
use Rattle.meaning.specs.Wmof.{wmof}
use Rattle.meaning.specs.Closest.{Tie, Closest}
use Rattle.forms.proofs.Naf.{Naf}
use Rattle.forms.proofs.Unique.{unique}
use Rattle.forms.proofs.Exists.{naf}
use Rattle.forms.proofs.Least.{naf_least}
use Rattle.forms.proofs.DigitSets.{all_of}
use Rattle.forms.proofs.Built.{built_weight}
use Rattle.forms.proofs.Wmof.{wmof_built}
use Rattle.forms.proofs.Taken.{takes_built}
use Rattle.forms.proofs.Spacing.{apart_naf, apart_bound}
use Rattle.forms.proofs.Wnaf.{wnaf_is}

-- ds has the nonadjacent weight of N
pub record Light (w N : ℕ) (ds : List ℤ) : Type 0 where
  pub weighs : (k : ℕ) → Naf w (pos N) k → weight ds ≡ k

module _ (w N : ℕ) (two : 2 ≤ w) where
  -- the three forms have it
  pub wnaf_light : {n : ℕ} {ds : List ℤ} → Wnaf w N n ds → Light w N ds
  wnaf_light {ds = ds} f =
      let (Q, four) = pow_four w two in
      record { weighs = λ k M. unique w Q four (apart_naf two (all_of w (omega arith) ds f.is_in_set) f.apart) M f.worth_is }

  pub wmof_light : (n : ℕ) → N < 2 ^ n → Light w N (wmof w N n)
  wmof_light n small = record { weighs = λ k M. built_weight two (wmof_built w N n two small) k M }

  pub closest_light : {tie : Tie} {n : ℕ} {ds : List ℤ} → Closest tie w N n ds → Light w N ds
  closest_light f = record { weighs = λ k M. built_weight two (takes_built two f.taken) k M }

  -- two of them weigh the same
  pub light_same : {ds es : List ℤ} → Light w N ds → Light w N es → weight ds ≡ weight es
  light_same a b = let (k, M) = naf w two (pos N) in a.weighs k M ∙ sym (b.weighs k M)

  -- no finite string over D_w, of any length, that is worth N has fewer nonzero digits
  pub light_least : {ds : List ℤ} → Light w N ds → (es : List ℤ) → T (all_in (largest w) es) → worth es ≡ pos N → weight ds ≤ weight es
  light_least a es t e =
      let (k, N) = naf w two (pos N) in
      omega (arith, a.weighs k N, naf_least w two N (all_of w (omega arith) es t) e)

  -- with n bits there are at most (n + w) / w nonzero digits
  pub light_bound : (n : ℕ) → N < 2 ^ n → {ds : List ℤ} → Light w N ds → weight ds ≤ (n + w) / w
  light_bound n small a =
      let f = wnaf_is w N n two small in
      omega (arith, light_same a (wnaf_light f), apart_bound two _ f.apart n f.length_is)
