-- The window that a scalar N opens at place i, for whoever looks it up or works it out: it is a window, its two leading bits are those of N, and it is odd
-- where it opens w places above a set bit. Assumes nothing.
use mathlib.Core.Path.{◌≡◌, sym, ap, ◌∙◌}
use mathlib.Core.Logic.{◌≢◌}
use mathlib.Core.Bool.{Bool, true, false}
use Prim.Native.Nat.{ℕ, suc, ◌+◌, ◌-◌, ◌*◌, ◌/◌, ◌%◌, ◌^◌, ◌≤◌, ◌<◌}
use native.Mathlib.Omega.{arith}
use lib.Dec.{eqb}
use lib.IntN.{ℤ, pos, ◌-ℤ◌}
use lib.Pow.{shl-shr, shr-shr, mod-mod-pow}
use Rattle.meaning.specs.Scalars.{bit, below}
use Rattle.meaning.specs.Windows.{window_bits, window_worth, leading, second, twos, odd_part, entry_unit, entry_twos}
use Rattle.meaning.specs.Wmof.{window_at, spot}
use Rattle.laws.specs.Deciding.{Decides}
use Rattle.laws.proofs.Choices.{no_is, not_equal, not_different}
use Rattle.laws.proofs.Integers.{sub_none}
use Rattle.forms.proofs.Rest.{bits_top, bits_next, rest, differ}
use Rattle.forms.proofs.Wmof.{At, step_at, window_step}
use Rattle.table.specs.declared.Window.{Window}
use Rattle.windows.specs.declared.opening.Place.{Place}
use Rattle.windows.specs.Openings.{Opens, Placed}
use Rattle.windows.specs.Parts.{Parts}

-- bit i leads
pub opened_leading : (w N i : ℕ) → leading w (window_bits w N i) ≡ bit N i
opened_leading w N i = bits_top w N i

-- and the bit under it comes second
pub opened_second : (w N i : ℕ) → 0 < w → second w (window_bits w N i) ≡ below N i
opened_second w N i h =
    let k : w ≡ suc (w - 1) = omega arith in
    ap (λ v. window_bits v N i / 2 ^ (w - 1) % 2) k ∙ bits_next (w - 1) N i

-- where bit i and the bit under it are different, so are the two leading bits
pub opened : (w N i : ℕ) → 2 ≤ w → bit N i ≢ below N i → leading w (window_bits w N i) ≢ second w (window_bits w N i)
opened w N i h d e = d (sym (opened_leading w N i) ∙ e ∙ opened_second w N i (omega arith))

-- the lowest bit of a window that opens w places above place t
pub opened_last : (w N t : ℕ) → window_bits w N (w + t) % 2 ≡ bit N t
opened_last w N t =
    mod-mod-pow (N * 2 ^ w / 2 ^ (w + t)) w 1
    ∙ ap (λ x. x % 2) (sym (shr-shr (N * 2 ^ w) w t) ∙ ap (λ x. x / 2 ^ t) (shl-shr N w))

-- ---- the entry of such a window
module _ (w N i : ℕ) (two : 2 ≤ w) where
  abbrev s : ℕ
  s = window_bits w N i

  -- different bits
  pub entry_some : bit N i ≢ below N i → (entry_unit w s ≡ odd_part w (window_at w N i)) × (entry_twos w s ≡ twos w (window_at w N i))
  unfolding entry_unit entry_twos
  entry_some d =
      let t = not_equal (leading w s) (second w s) (opened w N i two d) in
      (no_is (eqb (leading w s) (second w s)) _ _ t, no_is (eqb (leading w s) (second w s)) _ _ t)

  -- what its digit leaves
  pub opened_at : bit N i ≢ below N i → At w i (rest N (suc i)) (window_at w N i) (rest N (suc i - w))
  opened_at d = step_at w two (window_step w N i (differ (bit N i) (below N i) (omega arith) (omega arith) d))

-- ---- the window s that is read over place i
module _ (w N i s : ℕ) (two : 2 ≤ w) (seen : s ≡ window_bits w N i) where
  -- bit i leads
  pub leads : leading w s ≡ bit N i
  leads = ap (λ x. x / 2 ^ w) seen ∙ opened_leading w N i

  -- and the bit under it comes second
  pub follows : second w s ≡ below N i
  follows = ap (λ x. x / 2 ^ (w - 1) % 2) seen ∙ opened_second w N i (omega arith)

  -- so whether the window opens tells whether they are different
  module _ (r : Bool) (tells : Decides r (Opens w s)) where
    pub bits_same : r ≡ false → bit N i ≡ below N i
    bits_same e = sym leads ∙ not_different (leading w s) (second w s) (tells.no e) ∙ follows

    pub bits_differ : r ≡ true → bit N i ≢ below N i
    bits_differ e d = tells.yes e (leads ∙ d ∙ sym follows)

  -- where they are, its entry gives u and k of what it is worth
  pub looked : {x : Window} → bit N i ≢ below N i → Parts w (entry_unit w s) (entry_twos w s) x → Parts w (odd_part w (window_at w N i)) (twos w (window_at w N i)) x
  looked d p = let (u, k) = entry_some w N i two d in rw (seen, u, k) at p

  -- and so does what is worked out with nothing less
  pub worked : {x : Window} → Parts w (odd_part w (window_worth w s -ℤ pos 0)) (twos w (window_worth w s -ℤ pos 0)) x → Parts w (odd_part w (window_at w N i)) (twos w (window_at w N i)) x
  worked p = rw (sub_none (window_at w N i)) at (rw seen at p)

-- ---- the digit of a window that opens at place i and is worth v, its place, and the places left under the window
pub record Puts (w i : ℕ) (v : ℤ) (p : Place) : Type 0 where
  pub spot_is : p.spot ≡ spot w i v
  pub unit_is : p.unit ≡ odd_part w v
  pub left_is : p.left ≡ suc i - w

-- as they are placed
pub puts : {w m : ℕ} {x : Window} {p : Place} (i : ℕ) (v : ℤ) → suc i ≡ m → Parts w (odd_part w v) (twos w v) x → Placed w x m p → Puts w i v p
puts i v e x p = record { spot_is = omega (arith, p.spot_is, x.twos_is); unit_is = p.unit_is ∙ x.unit_is; left_is = omega (arith, p.left_is) }
