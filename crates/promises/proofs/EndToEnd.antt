-- From a scalar to a residue, and from a string made elsewhere to one, through all the calls by their promises alone. No acceptance is assumed but the first: what recode
-- or the check accepted, the checks, tape and run accept as well. Assumes nothing.
use mathlib.Core.Path.{◌≡◌, sym, ap, subst, ◌∙◌}
use mathlib.Core.Logic.{◌≢◌, inl, inr}
use mathlib.Core.List.{List}
use Prim.Native.Nat.{ℕ, ◌+◌, ◌-◌, ◌≤◌}
use native.Mathlib.Omega.{arith}
use native.Mathlib.Decide.{ℕ_discrete}
use lib.IntN.{ℤ, pos, ◌*ℤ◌}
use lib.ListN.{length, take}
use Rattle.meaning.specs.Scalars.{Order, number, bit_count}
use Rattle.meaning.specs.Digits.{entries, weight, top, Tally}
use Rattle.meaning.specs.Sets.{Pair}
use Rattle.meaning.specs.Fractional.{Fractional}
use Rattle.meaning.specs.Forms.{Has, asked, FormIn}
use Rattle.meaning.specs.Recoding.{recode_rules}
use Rattle.meaning.specs.Checking.{check_rules, nonadjacent_rules}
use Rattle.meaning.specs.Words.{most_words}
use Rattle.meaning.specs.Taping.{tape_rules}
use Rattle.meaning.specs.Running.{Residue, Run, Ran}
use Rattle.forms.proofs.Refusals.{Clear, first_only, first_none, clear}
use Rattle.forms.proofs.Forms.{form_length, form_digits}
use Rattle.forms.proofs.Fractional.{fractional_apart}
use Rattle.width.proofs.Widths.{pair_of}
use Rattle.scalar.proofs.Bytes.{Bytes, number_lt}
use Rattle.laws.proofs.Choices.{not_below}
use Rattle.walk.proofs.Lengths.{tape_fits}
use Rattle.run.proofs.Together.{together_accepted, together}
use Rattle.promises.proofs.Recode as Recoding
use Rattle.promises.proofs.Tape as Taping
use Rattle.promises.proofs.Check as Checking
use Rattle.promises.proofs.Check.{Legal, legal_clear, check_yes, check_yes_only, nonadjacent_yes_only}
use Rattle.promises.proofs.Demand2.{recoded_string, recoded_form, recoded_worth}
use Rattle.promises.proofs.Demand3.{taped_additions, taped_doublings}

-- ---- a legal string's tape and its run
-- what the run of a tape reports of the number N times the base, with a string's counts
pub record Ends (N m g k t : ℕ) (r : Ran) : Type 0 where
  pub accepted : r.refusal ≡ 0
  pub residue_is : Residue m (pos N *ℤ pos g) r.residue
  pub doublings_are : r.doublings ≡ t - 1
  pub additions_are : r.additions ≡ k - 1

module _ (w l : ℕ) {order : Order} {s : List ℕ} {ds : List ℤ} (L : Legal w l order s ds) {words₀ : List ℕ} (room : most_words ≤ length words₀) (t : Taping.Outcome) (K : Taping.Keeps w l ds words₀ t) where
  -- 1,057 words are room for every string's tape
  pub legal_taped : t.taped.refusal ≡ 0
  legal_taped =
      let (width, (set, (_, (_, (sound, _))))) = legal_clear w l order s ds L in
      (first_only (tape_rules w l ds (length words₀)) K.first
      (first_none (tape_rules w l ds (length words₀)) (width, (set, ((λ h. omega (arith, L.short)), (sound, ((λ h. omega (arith, tape_fits ds L.short)), tt))))))).0

  -- and its run is refused only where the modulus is 0 or the multiples have no room
  pub legal_ran : {m g : ℕ} {multiples₀ multiples : List ℕ} → m ≢ 0 → entries l ≤ length multiples₀ → (r : Ran) → Run w l (take t.taped.words t.words) m g multiples₀ r multiples
      → Ends (number order s) m g (weight ds) (top ds) r
  legal_ran {m} {g} some fits r P =
      let e = together_accepted w l K legal_taped P some fits in
      let d = together w l K legal_taped P e in
      record {
        accepted = e;
        residue_is = subst (λ z. Residue m (z *ℤ pos g) r.residue) L.worth_is d.residue_is;
        doublings_are = d.doublings_are;
        additions_are = d.additions_are;
      }

-- ---- from a scalar
module _ (form w l : ℕ) {order : Order} {s : List ℕ} {digits₀ : List ℤ} {marks₀ : List ℕ} (o : Recoding.Outcome) (K : Recoding.Keeps form w l order s digits₀ marks₀ o)
    (z : o.tally.refusal ≡ 0) (bytes : Bytes s) where
  -- the digits that recode wrote
  abbrev pub string : List ℤ
  string = take (bit_count s + 1) o.digits

  none : Clear (recode_rules form w l s (length digits₀) (length marks₀))
  none = clear (recode_rules form w l s (length digits₀) (length marks₀)) tt o.tally.refusal o.tally.place K.first z

  set : Pair w l
  set = pair_of w l (λ h. none.1.1.0 (inl h))

  narrow : form ≡ 1 → w ≡ 2
  narrow e = go (ℕ_discrete w 2)
    where
      go : Dec (w ≡ 2) → w ≡ 2
      go (yes h) = h
      go (no h) = absurd (none.1.0 (inr (e, h)))

  formed : FormIn form w l (number order s) (bit_count s) string
  formed = recoded_form form w l o K z bytes

  -- they are legal: in the set and worth the scalar
  pub recoded_legal : Legal w l order s string
  recoded_legal =
      let small = number_lt order s bytes in
      let few = not_below none.1.1.1.0 in
      record {
        pair = set;
        few = few;
        short = omega (arith, few, form_length w l (number order s) (bit_count s) set.between small form string formed);
        digits = form_digits w l (number order s) (bit_count s) set.between small form string formed narrow;
        worth_is = recoded_worth form w l o K z bytes;
      }

  -- with the weight and the top that recode answered
  pub weight_is : weight string ≡ o.tally.weight
  weight_is = ap weight (recoded_string form w l o K z bytes) ∙ sym (K.accepted z).weight_is

  pub top_is : top string ≡ o.tally.top
  top_is = ap top (recoded_string form w l o K z bytes) ∙ sym (K.accepted z).top_is

  -- what a check that says yes answers: the same weight and top
  abbrev Yes : Tally → Type 0
  Yes v = v ≡ record { refusal = 0; place = 0; weight = o.tally.weight; top = o.tally.top }

  counted : {v : Tally} → v ≡ record { refusal = 0; place = 0; weight = weight string; top = top string } → Yes v
  counted e = e ∙ ap (λ k. record { refusal = 0; place = 0; weight = k; top = top string }) weight_is ∙ ap (λ t. record { refusal = 0; place = 0; weight = o.tally.weight; top = t }) top_is

  -- the plain check says yes of every form's digits
  pub recoded_checked : (v : Tally) → Checking.Keeps (check_rules w l order s string) string v → Yes v
  recoded_checked v C = counted (check_yes_only w l order s string recoded_legal v C)

  -- and the nonadjacent check of wNAF's
  pub recoded_nonadjacent : form ≡ 2 → (v : Tally) → Checking.Keeps (nonadjacent_rules w l order s string) string v → Yes v
  unfolding asked Has
  recoded_nonadjacent e v C =
      let F : Fractional w l (number order s) (bit_count s) string = subst (λ f. FormIn f w l (number order s) (bit_count s) string) e formed in
      counted (nonadjacent_yes_only w l order s string recoded_legal (fractional_apart w l (number order s) (bit_count s) set.between F) v C)

  module _ {words₀ : List ℕ} (room : most_words ≤ length words₀) (t : Taping.Outcome) (T : Taping.Keeps w l string words₀ t) where
    -- tape accepts them into a buffer of 1,057 words, with one addition fewer than recode's weight and a doubling for each place under its top
    pub recoded_taped : (t.taped.refusal ≡ 0) × (t.taped.additions ≡ o.tally.weight - 1) × (t.taped.doublings ≡ o.tally.top - 1)
    recoded_taped =
        let e = legal_taped w l recoded_legal room t T in
        (e, (taped_additions w l t T e).0 ∙ ap (λ k. k - 1) weight_is, (taped_doublings w l t T e).0 ∙ ap (λ k. k - 1) top_is)

    -- and run accepts that tape, for every modulus that is not 0, and gives the scalar times the base
    pub recoded_ran : {m g : ℕ} {multiples₀ multiples : List ℕ} → m ≢ 0 → entries l ≤ length multiples₀ → (r : Ran) → Run w l (take t.taped.words t.words) m g multiples₀ r multiples
        → Ends (number order s) m g o.tally.weight o.tally.top r
    recoded_ran {m} {g} some fits r P = rw (← weight_is, ← top_is) (legal_ran w l recoded_legal room t T some fits r P)

-- ---- from a string made elsewhere
module _ (w l : ℕ) (order : Order) (s : List ℕ) {ds : List ℤ} (v : Tally) (C : Checking.Keeps (check_rules w l order s ds) ds v) (z : v.refusal ≡ 0)
    {words₀ : List ℕ} (room : most_words ≤ length words₀) (t : Taping.Outcome) (T : Taping.Keeps w l ds words₀ t) where
  legal : Legal w l order s ds
  legal = check_yes w l order s ds v C z

  said : v ≡ record { refusal = 0; place = 0; weight = weight ds; top = top ds }
  said = check_yes_only w l order s ds legal v C

  -- what the check said yes of, tape accepts into 1,057 words
  pub checked_taped : (t.taped.refusal ≡ 0) × (t.taped.additions ≡ v.weight - 1) × (t.taped.doublings ≡ v.top - 1)
  checked_taped =
      let e = legal_taped w l legal room t T in
      (e, (taped_additions w l t T e).0 ∙ ap (λ (x : Tally). x.weight - 1) (sym said), (taped_doublings w l t T e).0 ∙ ap (λ (x : Tally). x.top - 1) (sym said))

  -- and run accepts its tape and gives the scalar times the base
  pub checked_ran : {m g : ℕ} {multiples₀ multiples : List ℕ} → m ≢ 0 → entries l ≤ length multiples₀ → (r : Ran) → Run w l (take t.taped.words t.words) m g multiples₀ r multiples
      → Ends (number order s) m g v.weight v.top r
  checked_ran {m} {g} some fits r P =
      subst (λ (x : Tally). Ends (number order s) m g x.weight x.top r) (sym said) (legal_ran w l legal room t T some fits r P)
