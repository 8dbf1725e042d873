-- What the call's promise says of strings of any length: nine places suffice, so its answer is the least weight of all strings of D_w digits that are worth the number,
-- and the weight of the number in forms 2, 3 and 4. Assumes nothing.
use mathlib.Core.Path.{◌≡◌, refl}
use mathlib.Core.List.{List}
use Prim.Native.Nat.{ℕ, ◌^◌, ◌≤◌, ◌<◌}
use native.Mathlib.Omega.{arith}
use lib.Dec.{T}
use lib.IntN.{ℤ, pos}
use Rattle.meaning.specs.Digits.{largest, all_in, worth, weight}
use Rattle.meaning.specs.Forms.{Form, FormIn}
use Rattle.meaning.specs.Refusals.{First}
use Rattle.meaning.specs.Searching.{search_places, search_rules, Spells, Searched, Search}
use Rattle.laws.proofs.Choices.{not_below}
use Rattle.forms.proofs.Refusals.{clear}
use Rattle.forms.proofs.Made.{least_between}
use Rattle.forms.proofs.Forms.{form_exists, form_length, form_worth, form_digits, form_least, form_whole}
use Rattle.search.specs.Least.{most_number}

-- ---- a string of nine places: the wNAF, on one place more than eight bits
module _ (w number : ℕ) (two : 2 ≤ w) (small : number ≤ most_number) where
  bits : number < 2 ^ 8
  bits = omega arith

  pub nine_suffice : (ds : List ℤ) × FormIn 2 w (largest w) number 8 ds × Spells w search_places (pos number) ds
  nine_suffice =
      let set = least_between w two in
      let (ds, f) = form_exists w (largest w) number 8 set bits 2 (omega arith) (omega arith) in (
        ds,
        f,
        record {
          length_is = form_length w (largest w) number 8 set bits 2 ds f;
          is_in_set = form_digits w (largest w) number 8 set bits 2 ds f (λ e. absurd (omega arith));
          worth_is = form_worth w (largest w) number 8 set bits 2 ds f;
        },
      )

-- ---- what is accepted
accepted_input : (number w p : ℕ) {r : ℕ} → First (search_rules number w) r p → r ≡ 0 → (2 ≤ w) × (number ≤ most_number)
accepted_input number w p {r} f z =
    let (width, (small, _)) = clear (search_rules number w) tt r p f z in
    (not_below (λ l. width ((λ e. omega arith), (λ e. omega arith))), not_below small)

-- ---- strings of any length
module _ (number w : ℕ) (a : Searched) (s : Search number w a) (z : a.refusal ≡ 0) where
  pub search_any_length : (es : List ℤ) → T (all_in (largest w) es) → worth es ≡ pos number → a.weight ≤ weight es
  search_any_length es t e =
      let (two, small) = accepted_input number w 0 s.first z in
      let (ds, f, p) = nine_suffice w number two small in
      omega (arith, (s.accepted z).least ds p, form_least w (largest w) number 8 (least_between w two) (bits w number two small) 2 ds f (omega arith) (λ _. refl) es t e)

  -- no form has a number above 4
  pub search_agrees : (form n : ℕ) → 2 ≤ form → number < 2 ^ n → (ds : List ℤ) → Form form w number n ds → weight ds ≡ a.weight
  search_agrees form n h l ds f =
      let two = (accepted_input number w 0 s.first z).0 in
      let best = s.accepted z in
      let set = least_between w two in
      let g = (form_whole w number n two form ds).1 f in
      let above = search_any_length ds (form_digits w (largest w) number n set l form ds g (λ e. absurd (omega arith))) (form_worth w (largest w) number n set l form ds g) in
      let below = form_least w (largest w) number n set l form ds g h (λ _. refl) best.string best.spells.is_in_set best.spells.worth_is in
      omega (arith, best.weight_is)
