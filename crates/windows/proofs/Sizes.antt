-- What a window is worth, less 0 or 1, as a size and a sign: the size is not 0 and at most 2 ^ (w - 1), so u is a digit and k is below w. Assumes nothing.
use mathlib.Core.Path.{◌≡◌, sym, ap, ◌∙◌}
use mathlib.Core.Logic.{◌≢◌}
use mathlib.Core.Bool.{Bool, true, false, cond}
use Prim.Native.Nat.{ℕ, ◌+◌, ◌-◌, ◌*◌, ◌/◌, ◌%◌, ◌^◌, ◌≤◌, ◌<◌}
use native.Mathlib.Decide.{dec_le}
use native.Mathlib.Omega.{arith}
use lib.IntN.{ℤ, pos, neg_ℤ, ◌-ℤ◌}
use lib.Pow.{pow_mono}
use Rattle.laws.proofs.Integers.{above, beneath_more, sub_none}
use Rattle.laws.proofs.Division.{quotient}
use Rattle.laws.proofs.Powers.{pow_pred, pow_next}
use Rattle.meaning.specs.Windows.{leading, second, window_worth}

-- the number of a size and a sign
abbrev pub signed : Bool → ℕ → ℤ
signed minus n = cond minus (neg_ℤ (pos n)) (pos n)

-- ---- the two leading bits
module _ (w s : ℕ) (two : 2 ≤ w) (l : s < 2 ^ (w + 1)) (d : leading w s ≢ second w s) where
  -- 0 leads, and 1 comes after it
  rise_is : s < 2 ^ w → (leading w s ≡ 0) × (2 ^ (w - 1) ≤ s)
  rise_is h =
      let z = quotient s (2 ^ w) 0 (omega arith) (omega arith) in
      (z, go z (dec_le (2 ^ (w - 1)) s))
    where
      go : leading w s ≡ 0 → Dec (2 ^ (w - 1) ≤ s) → 2 ^ (w - 1) ≤ s
      go z (yes g) = g
      go z (no g) = absurd (d (z ∙ sym (ap (λ t. t % 2) (quotient s (2 ^ (w - 1)) 0 (omega arith) (omega arith)))))

  -- 1 leads, and 0 comes after it
  fall_is : 2 ^ w ≤ s → (leading w s ≡ 1) × (s < 3 * 2 ^ (w - 1))
  fall_is h =
      let z = quotient s (2 ^ w) 1 (omega arith) (omega (arith, pow_next w)) in
      (z, go z (dec_le (3 * 2 ^ (w - 1)) s))
    where
      go : leading w s ≡ 1 → Dec (3 * 2 ^ (w - 1) ≤ s) → s < 3 * 2 ^ (w - 1)
      go z (yes g) = absurd (d (z ∙ sym (ap (λ t. t % 2) (quotient s (2 ^ (w - 1)) 3 (omega arith) (omega (arith, pow_next w, pow_pred w (omega arith)))))))
      go z (no g) = omega arith

-- ---- v less 0 or 1
-- v is a size and a sign; the size is not 0, and at most 2 ^ (w - 1)
pub record Sized (w : ℕ) (v : ℤ) (minus : Bool) (size : ℕ) : Type 0 where
  pub is : v ≡ signed minus size
  pub some : 0 < size
  pub most : 2 * size ≤ 2 ^ w

module _ (w s less : ℕ) (two : 2 ≤ w) (l : s < 2 ^ (w + 1)) (d : leading w s ≢ second w s) (o : less ≤ s % 2) where
  -- 2 ^ w is twice a number that is 2 at least
  four : 2 ^ w ≡ 2 * 2 ^ (w - 1)
  four = pow_pred w (omega arith)

  least : 2 ^ 1 ≤ 2 ^ (w - 1)
  least = pow_mono {i = 1} {j = w - 1} (omega arith)

  -- the leading bit takes off 2 ^ w or nothing
  worth_less : (b : ℕ) → 2 ^ w * leading w s ≡ b → window_worth w s -ℤ pos less ≡ pos ((s + 1) / 2) -ℤ pos b -ℤ pos less
  unfolding window_worth
  worth_less b e = ap (λ t. pos ((s + 1) / 2) -ℤ pos t -ℤ pos less) e

  -- 0 leads
  pub rise : s < 2 ^ w → Sized w (window_worth w s -ℤ pos less) false ((s + 1) / 2 - less)
  rise h =
      let (z, g) = rise_is w s two l d h in
      record {
        is = worth_less 0 (omega (arith, ap (λ t. 2 ^ w * t) z)) ∙ ap (λ v. v -ℤ pos less) (sub_none (pos ((s + 1) / 2))) ∙ above ((s + 1) / 2) less (omega arith);
        some = omega (arith, four, least);
        most = omega (arith, four);
      }

  -- 1 leads
  pub fall : 2 ^ w ≤ s → Sized w (window_worth w s -ℤ pos less) true (2 ^ w - (s + 1) / 2 + less)
  fall h =
      let (z, g) = fall_is w s two l d h in
      record {
        is = worth_less (2 ^ w) (omega (arith, ap (λ t. 2 ^ w * t) z)) ∙ beneath_more ((s + 1) / 2) (2 ^ w) less (omega (arith, four, least));
        some = omega (arith, four, least);
        most = omega (arith, four, least);
      }
