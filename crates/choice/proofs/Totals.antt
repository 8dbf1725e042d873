-- The total of a width: by the weight and the top of the string; there is one, and one only. Assumes nothing.
use mathlib.Core.Path.{◌≡◌, sym, ap, ◌∙◌}
use mathlib.Core.List.{List}
use Prim.Native.Nat.{ℕ, ◌+◌, ◌-◌, ◌^◌, ◌<◌, ◌≤◌}
use native.Mathlib.Omega.{arith}
use native.Mathlib.Decide.{dec_lt}
use lib.Dec.{T}
use lib.IntN.{ℤ}
use lib.Pow.{pow_mono}
use Rattle.meaning.specs.Digits.{most_width, largest, all_in, weight, top}
use Rattle.meaning.specs.Walks.{doublings}
use Rattle.meaning.specs.Multiples.{cost_of}
use Rattle.meaning.specs.Taping.{tape_of}
use Rattle.meaning.specs.Choosing.{multiples_at, total_of, Totals}
use Rattle.forms.specs.Fractional.{fractional_from}
use Rattle.forms.proofs.Strings.{weight_le, top_le}
use Rattle.forms.proofs.Wnaf.{wnaf_is, wnaf_same}
use Rattle.walk.proofs.Tapes.{faithful}
use Rattle.walk.proofs.Multiples.{cost_one, cost_more}
use Rattle.width.specs.Widths.{Wide}
use Rattle.width.proofs.Widths.{whole_pair, pair_sized}

-- both costs of so many multiples
pub cost_none : (count : ℕ) → count < 2 → 0 ≡ (cost_of count).doublings + (cost_of count).additions
cost_none count h = let (d, a) = cost_one count h in omega arith

pub cost_some : (count : ℕ) → 2 ≤ count → count ≡ (cost_of count).doublings + (cost_of count).additions
cost_some count h = let (d, a) = cost_more count h in omega arith

pub cost_few : (w : ℕ) → w ≤ most_width → (cost_of (multiples_at w)).doublings + (cost_of (multiples_at w)).additions ≤ 64
cost_few w h = go (dec_lt (multiples_at w) 2)
  where
    go : Dec (multiples_at w < 2) → (cost_of (multiples_at w)).doublings + (cost_of (multiples_at w)).additions ≤ 64
    go (yes l) = omega (arith, cost_none (multiples_at w) l)
    go (no l) = omega (arith, cost_some (multiples_at w) (omega arith), pow_mono {i = w - 2} {j = 6} (omega arith))

-- the counts of a string's tape are one fewer than its top and than its weight
pub total_by : (w : ℕ) → Wide w → (ds : List ℤ) → T (all_in (largest w) ds)
    → (top ds - 1) + (weight ds - 1) + ((cost_of (multiples_at w)).doublings + (cost_of (multiples_at w)).additions) ≡ total_of w ds
unfolding total_of
total_by w wide ds t =
    let (one, few) = pair_sized (whole_pair wide) in
    let f = faithful (largest w) one few ds t in
    let c = (cost_of (multiples_at w)).doublings + (cost_of (multiples_at w)).additions in
    ap (λ x. x + (weight ds - 1) + c) (sym f.doublings_are) ∙ ap (λ x. doublings (tape_of ds) + x + c) (sym f.additions_are)

-- the total of the string that is counted
pub totals_by : (w N n : ℕ) → Wide w → N < 2 ^ n → {t : ℕ}
    → t ≡ (top (fractional_from w (largest w) (n + 1) N) - 1) + (weight (fractional_from w (largest w) (n + 1) N) - 1) + ((cost_of (multiples_at w)).doublings + (cost_of (multiples_at w)).additions)
    → Totals N n w t
totals_by w N n wide small e =
    let f = wnaf_is w N n wide.0 small in
    record { string = fractional_from w (largest w) (n + 1) N; formed = f; is = e ∙ total_by w wide (fractional_from w (largest w) (n + 1) N) f.is_in_set }

-- the string is short
pub few_counts : (w N n : ℕ) → Wide w → N < 2 ^ n → (top (fractional_from w (largest w) (n + 1) N) ≤ n + 1) × (weight (fractional_from w (largest w) (n + 1) N) ≤ n + 1)
few_counts w N n wide small =
    let ds = fractional_from w (largest w) (n + 1) N in
    let l = (wnaf_is w N n wide.0 small).length_is in
    (omega (arith, top_le ds), omega (arith, weight_le ds))

-- two totals of one width are one
pub totals_same : {N n w t u : ℕ} → 2 ≤ w → Totals N n w t → Totals N n w u → t ≡ u
totals_same {N} {n} {w} two a b = a.is ∙ ap (total_of w) (wnaf_same w N n two a.formed b.formed) ∙ sym b.is
