-- A larger set never costs additions, and so neither does more width: of two accepted recodes of one scalar in one form, wNAF, wMOF or either closest, the one in the set of the
-- larger digit, of this width or another, answers no larger weight, and the tape of its string no more additions. From the calls' promises alone. Assumes nothing.
use mathlib.Core.Path.{◌≡◌, ap}
use mathlib.Core.List.{List, []}
use Prim.Native.Nat.{ℕ, ◌+◌, ◌-◌, ◌≤◌}
use native.Mathlib.Omega.{arith}
use lib.IntN.{ℤ}
use lib.ListN.{length, take}
use lib.Pow.{pow_mono}
use Rattle.meaning.specs.Scalars.{Order, number, bit_count}
use Rattle.meaning.specs.Digits.{largest, weight}
use Rattle.forms.proofs.Forms.{form_lighter}
use Rattle.scalar.proofs.Bytes.{Bytes, number_lt}
use Rattle.promises.proofs.Recode as Recoding
use Rattle.promises.proofs.Recode.{accepted_set}
use Rattle.promises.proofs.Tape as Taping
use Rattle.promises.proofs.Demand2.{recoded_string}
use Rattle.promises.proofs.Demand3.{taped_additions}

-- a larger width has a larger digit
pub wider_larger : (w v : ℕ) → w ≤ v → largest w ≤ largest v
wider_larger w v h = let p = pow_mono {i = w - 1} {j = v - 1} (omega arith) in omega arith

module _ (form w l v k : ℕ) {order : Order} {s : List ℕ} {digits₀ digits₁ : List ℤ} {marks₀ marks₁ : List ℕ} (o p : Recoding.Outcome)
    (K : Recoding.Keeps form w l order s digits₀ marks₀ o) (L : Recoding.Keeps form v k order s digits₁ marks₁ p) (z : o.tally.refusal ≡ 0) (y : p.tally.refusal ≡ 0)
    (bytes : Bytes s) (light : 2 ≤ form) (more : l ≤ k) where
  -- the weights do not rise
  pub recoded_lighter : p.tally.weight ≤ o.tally.weight
  recoded_lighter =
      let A = K.accepted z in
      let B = L.accepted y in
      let (set, _) = accepted_set [] form w l s (length digits₀) (length marks₀) o.tally.place K.first z in
      let (other, whole) = accepted_set [] form v k s (length digits₁) (length marks₁) p.tally.place L.first y in
      omega
      (arith, A.weight_is, B.weight_is, form_lighter w l v k (number order s) (bit_count s) set.between other.between more (number_lt order s bytes) form light whole A.string B.string A.formed B.formed)

  -- and the additions of the two strings' tapes do not either
  pub taped_lighter : {words₀ words₁ : List ℕ} (t u : Taping.Outcome)
      → Taping.Keeps w l (take (bit_count s + 1) o.digits) words₀ t → Taping.Keeps v k (take (bit_count s + 1) p.digits) words₁ u
      → t.taped.refusal ≡ 0 → u.taped.refusal ≡ 0 → u.taped.additions ≤ t.taped.additions
  taped_lighter t u T U x q =
      let a = ap weight (recoded_string form w l o K z bytes) in
      let b = ap weight (recoded_string form v k p L y bytes) in
      omega (arith, (taped_additions w l t T x).0, (taped_additions v k u U q).0, a, b, (K.accepted z).weight_is, (L.accepted y).weight_is, recoded_lighter)

-- so at whole widths: more width never costs additions
module _ (form w v : ℕ) {order : Order} {s : List ℕ} {digits₀ digits₁ : List ℤ} {marks₀ marks₁ : List ℕ} (o p : Recoding.Outcome)
    (K : Recoding.Keeps form w (largest w) order s digits₀ marks₀ o) (L : Recoding.Keeps form v (largest v) order s digits₁ marks₁ p) (z : o.tally.refusal ≡ 0) (y : p.tally.refusal ≡ 0)
    (bytes : Bytes s) (light : 2 ≤ form) (more : w ≤ v) where
  pub recoded_wider : p.tally.weight ≤ o.tally.weight
  recoded_wider = recoded_lighter form w (largest w) v (largest v) o p K L z y bytes light (wider_larger w v more)

  pub taped_wider : {words₀ words₁ : List ℕ} (t u : Taping.Outcome)
      → Taping.Keeps w (largest w) (take (bit_count s + 1) o.digits) words₀ t → Taping.Keeps v (largest v) (take (bit_count s + 1) p.digits) words₁ u
      → t.taped.refusal ≡ 0 → u.taped.refusal ≡ 0 → u.taped.additions ≤ t.taped.additions
  taped_wider = taped_lighter form w (largest w) v (largest v) o p K L z y bytes light (wider_larger w v more)
