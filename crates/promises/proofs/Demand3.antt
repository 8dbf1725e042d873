-- Demand 3. For wNAF, wMOF and both closest forms, 2 to 5, in a set: no finite string over the set, of any length, that is worth the scalar has fewer
-- nonzero digits; with n bits lent there are at most (n + w) / w of them, rounded down; the tape holds one addition or subtraction fewer than that number, none for zero, and
-- one doubling for each place under the highest nonzero digit; and the run does those steps and reports them. From the calls' promises alone. Assumes nothing.
use mathlib.Core.Path.{◌≡◌, ap, ◌∙◌}
use mathlib.Core.Logic.{◌≢◌}
use mathlib.Core.List.{List, []}
use Prim.Native.Nat.{ℕ, ◌+◌, ◌-◌, ◌/◌, ◌^◌, ◌<◌, ◌≤◌}
use native.Mathlib.Omega.{arith}
use lib.Dec.{T}
use lib.IntN.{ℤ, pos}
use lib.ListN.{length, take}
use Rattle.meaning.specs.Scalars.{Order, number, bit_count}
use Rattle.meaning.specs.Digits.{worth, weight, top, all_in, largest}
use Rattle.meaning.specs.Sets.{Pair}
use Rattle.meaning.specs.Walks.{doublings, additions}
use Rattle.meaning.specs.Running.{Run, Ran}
use Rattle.forms.proofs.Forms.{form_least, form_bound}
use Rattle.forms.proofs.Refusals.{granted_all}
use Rattle.tape.proofs.Refusals.{Accepted, accepted, written_words}
use Rattle.width.proofs.Widths.{pair_sized}
use Rattle.walk.proofs.Tapes.{Faithful, faithful}
use Rattle.scalar.proofs.Bytes.{Bytes, number_lt}
use Rattle.run.proofs.Together.{together}
use Rattle.promises.proofs.Recode as Recoding
use Rattle.promises.proofs.Recode.{accepted_set}
use Rattle.promises.proofs.Below as Below
use Rattle.promises.proofs.Below.{below_plain}
use Rattle.promises.proofs.Tape as Taping

module _ (form w l : ℕ) {order : Order} {s : List ℕ} {digits₀ : List ℤ} {marks₀ : List ℕ} (o : Recoding.Outcome) (K : Recoding.Keeps form w l order s digits₀ marks₀ o)
    (z : o.tally.refusal ≡ 0) (bytes : Bytes s) (light : 2 ≤ form) where
  small : number order s < 2 ^ bit_count s
  small = number_lt order s bytes

  set : Pair w l × (form ≢ 2 → l ≡ largest w)
  set = accepted_set [] form w l s (length digits₀) (length marks₀) o.tally.place K.first z

  -- the weight that recode reports is the least of any string over the set, whatever its length, that is worth the scalar
  pub recoded_least : (es : List ℤ) → T (all_in l es) → worth es ≡ pos (number order s) → o.tally.weight ≤ weight es
  recoded_least es t e =
      let A = K.accepted z in
      omega (arith, A.weight_is, form_least w l (number order s) (bit_count s) set.0.between small form A.string A.formed light set.1 es t e)

  -- and with n bits lent it is at most (n + w) / w
  pub recoded_bound : o.tally.weight ≤ (bit_count s + w) / w
  recoded_bound =
      let A = K.accepted z in
      omega (arith, A.weight_is, form_bound w l (number order s) (bit_count s) set.0.between small form A.string A.formed light)

-- so of an accepted call that takes a group's order
module _ (form w l : ℕ) {order : Order} {s : List ℕ} (group : List ℕ) {digits₀ : List ℤ} {marks₀ : List ℕ} (o : Recoding.Outcome) (K : Below.Keeps form w l order s group digits₀ marks₀ o)
    (z : o.tally.refusal ≡ 0) (bytes : Bytes s) (light : 2 ≤ form) where
  pub below_least : (es : List ℤ) → T (all_in l es) → worth es ≡ pos (number order s) → o.tally.weight ≤ weight es
  below_least = recoded_least form w l o (below_plain form w l order s group digits₀ marks₀ o K z) z bytes light

  pub below_bound : o.tally.weight ≤ (bit_count s + w) / w
  below_bound = recoded_bound form w l o (below_plain form w l order s group digits₀ marks₀ o K z) z bytes light

module _ (w l : ℕ) {ds : List ℤ} {words₀ : List ℕ} (t : Taping.Outcome) (K : Taping.Keeps w l ds words₀ t) (z : t.taped.refusal ≡ 0) where
  -- what its tape is
  is : Accepted w l ds words₀
  is = accepted w l K z

  tape : Faithful l (pair_sized is.pair).0 (pair_sized is.pair).1 ds
  tape = faithful l (pair_sized is.pair).0 (pair_sized is.pair).1 ds is.sound

  -- the tape's additions: one fewer than the nonzero digits, none for zero; they are its words of code 3 or 4
  pub taped_additions : (t.taped.additions ≡ weight ds - 1) × (additions (take t.taped.words t.words) ≡ weight ds - 1)
  taped_additions = (K.additions_are ∙ granted_all t.taped.refusal (weight ds - 1) z, ap additions (written_words w l K z) ∙ tape.additions_are)

  -- its doublings: one for each place under the highest nonzero digit; they are its words of code 0
  pub taped_doublings : (t.taped.doublings ≡ top ds - 1) × (doublings (take t.taped.words t.words) ≡ top ds - 1)
  taped_doublings = (K.doublings_are ∙ granted_all t.taped.refusal (top ds - 1) z, ap doublings (written_words w l K z) ∙ tape.doublings_are)

  -- the run does those steps and reports them
  pub run_reports : {m g : ℕ} {multiples₀ multiples : List ℕ} (r : Ran) → Run w l (take t.taped.words t.words) m g multiples₀ r multiples → r.refusal ≡ 0
      → (r.doublings ≡ top ds - 1) × (r.additions ≡ weight ds - 1)
  run_reports r P y = let d = together w l K z P y in (d.doublings_are, d.additions_are)
