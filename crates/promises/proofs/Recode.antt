-- The promise of recode, by whichever rules: two outcomes that satisfy it for one input are equal; and what an acceptance tells. Assumes nothing.
use mathlib.Core.Path.{◌≡◌, refl, sym, ap, ◌∙◌}
use mathlib.Core.Logic.{◌≢◌, inl, inr}
use mathlib.Core.List.{List, [], ◌++◌}
use Prim.Native.Nat.{ℕ, ◌+◌}
use native.Mathlib.Omega.{arith}
use native.Mathlib.Decide.{ℕ_discrete}
use lib.IntN.{ℤ}
use lib.ListN.{length, drop}
use Rattle.meaning.specs.Scalars.{Order, number, bit_count}
use Rattle.meaning.specs.Digits.{largest, weight, top, Tally}
use Rattle.meaning.specs.Sets.{Pair}
use Rattle.meaning.specs.Forms.{FormIn}
use Rattle.meaning.specs.Refusals.{Rule, First}
use Rattle.meaning.specs.Recoding.{mark_words, marks_of, set_for, rules_with, RecodeBy, Recode}
use Rattle.meaning.specs.Whole.{RecodeWhole}
use Rattle.forms.proofs.Refusals.{first_only}
use Rattle.forms.proofs.Wholes.{recode_whole}
use Rattle.forms.proofs.Forms.{form_same}
use Rattle.width.proofs.Widths.{pair_of}

-- what a call leaves: its answer, and both buffers
pub record Outcome : Type 0 where
  pub tally : Tally
  pub digits : List ℤ
  pub marks : List ℕ

-- the outcome satisfies the promise
abbrev pub Keeps : (form w l : ℕ) (order : Order) (s : List ℕ) (digits₀ : List ℤ) (marks₀ : List ℕ) → Outcome → Type 0
Keeps form w l order s digits₀ marks₀ o = Recode form w l order s digits₀ marks₀ o.tally o.digits o.marks

-- outcomes are equal by their fields
made : (r p k t : ℕ) (ds : List ℤ) (ms : List ℕ) → Outcome
made r p k t ds ms = record { tally = record { refusal = r; place = p; weight = k; top = t }; digits = ds; marks = ms }

-- what an accepted set is, whatever other rules a call has
pub accepted_set : (more : List Rule) (form w l : ℕ) (s : List ℕ) (places words p : ℕ) {r : ℕ} → First (rules_with (set_for form w l) more form w s places words) r p → r ≡ 0
    → Pair w l × (form ≢ 2 → l ≡ largest w)
accepted_set more form w l s places words p (inl (e, _)) z = absurd (omega arith)
accepted_set more form w l s places words p (inr (_, inl (e, _))) z = absurd (omega arith)
accepted_set more form w l s places words p (inr (_, inr (n, inl (e, _)))) z = absurd (omega arith)
accepted_set more form w l s places words p (inr (_, inr (n, inr (k, _)))) z = (pair_of w l (λ h. k (inl h)), λ f. go f (ℕ_discrete l (largest w)))
  where
    go : form ≢ 2 → Dec (l ≡ largest w) → l ≡ largest w
    go f (yes e) = e
    go f (no h) = absurd (k (inr (f, h)))

module _ (more : List Rule) (form w l : ℕ) (order : Order) (s : List ℕ) (digits₀ : List ℤ) (marks₀ : List ℕ) where
  abbrev rules : List Rule
  rules = rules_with (set_for form w l) more form w s (length digits₀) (length marks₀)

  abbrev By : Outcome → Type 0
  By o = RecodeBy rules (FormIn form w l) order s digits₀ marks₀ o.tally o.digits o.marks

  -- two outcomes that keep the promise are equal, accepted or refused
  pub determined_by : (o o' : Outcome) → By o → By o' → o ≡ o'
  unfolding made
  determined_by o o' K K' = go (ℕ_discrete o.tally.refusal 0)
    where
      one : (o.tally.refusal ≡ o'.tally.refusal) × (o.tally.place ≡ o'.tally.place)
      one = first_only rules K.first K'.first

      same : o.tally.weight ≡ o'.tally.weight → o.tally.top ≡ o'.tally.top → o.digits ≡ o'.digits → o.marks ≡ o'.marks
          → made o.tally.refusal o.tally.place o.tally.weight o.tally.top o.digits o.marks ≡ made o'.tally.refusal o'.tally.place o'.tally.weight o'.tally.top o'.digits o'.marks
      same k t d m = let (r, p) = one in cc

      go : Dec (o.tally.refusal ≡ 0) → o ≡ o'
      go (yes z) =
          let A = K.accepted z in
          let B = K'.accepted (sym one.0 ∙ z) in
          let e = form_same w l (number order s) (bit_count s) (accepted_set more form w l s (length digits₀) (length marks₀) o.tally.place K.first z).0.between form A.string B.string A.formed B.formed in
          same
          (A.weight_is ∙ ap weight e ∙ sym B.weight_is)
          (A.top_is ∙ ap top e ∙ sym B.top_is)
          (A.digits_are ∙ ap (λ x. x ++ drop (bit_count s + 1) digits₀) e ∙ sym B.digits_are)
          (A.marks_are ∙ ap (λ x. marks_of x ++ drop mark_words marks₀) e ∙ sym B.marks_are)
      go (no n) =
          let A = K.refused n in
          let B = K'.refused (λ e. n (one.0 ∙ e)) in
          same (A.weight_is ∙ sym B.weight_is) (A.top_is ∙ sym B.top_is) (A.digits_are ∙ sym B.digits_are) (A.marks_are ∙ sym B.marks_are)

pub recode_determined : (form w l : ℕ) (order : Order) (s : List ℕ) (digits₀ : List ℤ) (marks₀ : List ℕ) (o o' : Outcome) → Keeps form w l order s digits₀ marks₀ o → Keeps form w l order s digits₀ marks₀ o' → o ≡ o'
recode_determined = determined_by []

-- so of the promise by a whole width alone, which is that of its set
pub whole_determined : (form w : ℕ) (order : Order) (s : List ℕ) (digits₀ : List ℤ) (marks₀ : List ℕ) (o o' : Outcome)
    → RecodeWhole form w order s digits₀ marks₀ o.tally o.digits o.marks → RecodeWhole form w order s digits₀ marks₀ o'.tally o'.digits o'.marks → o ≡ o'
whole_determined form w order s digits₀ marks₀ o o' K K' =
    let back : (x : Outcome) → RecodeWhole form w order s digits₀ marks₀ x.tally x.digits x.marks → Keeps form w (largest w) order s digits₀ marks₀ x =
    λ x. (recode_whole w (largest w) (λ _ _. refl) form order s digits₀ marks₀ x.tally x.digits x.marks).1 in
    recode_determined form w (largest w) order s digits₀ marks₀ o o' (back o K) (back o' K')
