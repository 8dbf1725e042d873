-- What each form's string has in a set: it exists on n + 1 places, so that no digit is needed above place n; it is one only, worth N, and in the set; all but MOF have the least
-- weight and keep the bound, and are no heavier in a larger set. Each is shown form by form, and then said by the form's number. Forms other than wNAF have whole sets.
-- Assumes nothing.
use mathlib.Core.Path.{◌≡◌, refl, sym, ap, ◌∙◌}
use mathlib.Core.Logic.{◌≢◌, ◌↔◌}
use mathlib.Core.List.{List}
use Prim.Native.Nat.{ℕ, zero, suc, ◌+◌, ◌/◌, ◌^◌, ◌<◌, ◌≤◌}
use native.Mathlib.Omega.{arith}
use lib.Dec.{T}
use lib.IntN.{ℤ, pos}
use lib.ListN.{length}
use Rattle.meaning.specs.Sets.{Between}
use Rattle.meaning.specs.Digits.{worth, weight, all_in, largest}
use Rattle.meaning.specs.Mof as Mof
use Rattle.meaning.specs.Wmof as Wmof
use Rattle.meaning.specs.Wnaf.{Wnaf}
use Rattle.meaning.specs.Fractional.{Fractional}
use Rattle.meaning.specs.Closest.{Tie, larger, smaller}
use Rattle.meaning.specs.Forms.{Kind, mof, wnaf, wmof, closest, Has, Asked, one, nothing, asked, most_form, Strings, Given, Form, FormIn}
use Rattle.forms.specs.Fractional.{fractional_from}
use Rattle.forms.specs.Closest.{closest_of}
use Rattle.forms.proofs.DigitSets.{all_larger}
use Rattle.forms.proofs.Mof.{mof_length, mof_digits, mof_worth}
use Rattle.forms.proofs.Spacing.{apart_bound}
use Rattle.forms.proofs.Fractional.{fractional_same, fractional_worth, fractional_digits, fractional_apart}
use Rattle.forms.proofs.Made.{fractional_is}
use Rattle.forms.proofs.Whole.{least_is}
use Rattle.forms.proofs.Least.{fractional_least}
use Rattle.forms.proofs.Wmof.{wmof_length, wmof_digits, wmof_worth}
use Rattle.forms.proofs.Taken.{takes_worth, takes_digits, takes_same}
use Rattle.forms.proofs.Ties.{closest_is}
use Rattle.forms.proofs.Weights.{wmof_light, closest_light, light_least, light_bound}

-- the string of a form, as code makes it
unfoldable pub string_of : Kind → (w m N n : ℕ) → List ℤ
string_of mof w m N n = Mof.mof N n
string_of wnaf w m N n = fractional_from w m (n + 1) N
string_of wmof w m N n = Wmof.wmof w N n
string_of (closest tie) w m N n = closest_of tie w N n

-- kinds that are not wNAF
wmof_other : wmof ≢ wnaf
wmof_other e = let z : ◌≡◌ {A = ℕ} 0 1 = cc in absurd (omega arith)

closest_other : {tie : Tie} → closest tie ≢ wnaf
closest_other e = let z : ◌≡◌ {A = ℕ} 0 1 = cc in absurd (omega arith)

-- ---- form by form
module _ (w m N n : ℕ) (set : Between w m) where
  -- one string only
  pub kind_same : (k : Kind) (ds es : List ℤ) → Has (Fractional w m) k w N n ds → Has (Fractional w m) k w N n es → ds ≡ es
  unfolding Has
  kind_same mof ds es a b = a ∙ sym b
  kind_same wnaf ds es a b = fractional_same w m N n a b
  kind_same wmof ds es a b = a ∙ sym b
  kind_same (closest tie) ds es a b = takes_same set.wide a.taken b.taken refl (a.length_is ∙ sym b.length_is)

  module _ (small : N < 2 ^ n) where
    pub kind_is : (k : Kind) → Has (Fractional w m) k w N n (string_of k w m N n)
    unfolding Has string_of
    kind_is mof = refl
    kind_is wnaf = fractional_is w m N n set small
    kind_is wmof = refl
    kind_is (closest tie) = closest_is tie w N n set.wide small

    kind_length : (k : Kind) (ds : List ℤ) → Has (Fractional w m) k w N n ds → length ds ≡ n + 1
    unfolding Has
    kind_length mof ds a = ap length a ∙ mof_length N n
    kind_length wnaf ds a = a.length_is
    kind_length wmof ds a = ap length a ∙ wmof_length w N n set.wide small
    kind_length (closest tie) ds a = a.length_is

    kind_worth : (k : Kind) (ds : List ℤ) → Has (Fractional w m) k w N n ds → worth ds ≡ pos N
    unfolding Has
    kind_worth mof ds a = ap worth a ∙ mof_worth N n small
    kind_worth wnaf ds a = fractional_worth w m N n a
    kind_worth wmof ds a = ap worth a ∙ wmof_worth w N n set.wide small
    kind_worth (closest tie) ds a = takes_worth set.wide a.taken

    -- the width of MOF is 2
    kind_digits : (k : Kind) → (k ≡ mof → w ≡ 2) → (ds : List ℤ) → Has (Fractional w m) k w N n ds → T (all_in m ds)
    unfolding Has
    kind_digits mof q ds a = let e = q refl in all_larger (rw e at set.least) ds (rw a (mof_digits N n))
    kind_digits wnaf q ds a = fractional_digits w m N n set a
    kind_digits wmof q ds a = all_larger set.least ds (rw a (wmof_digits w N n set.wide small))
    kind_digits (closest tie) q ds a = all_larger set.least ds (takes_digits set.wide a.taken)

    -- all but MOF have the least weight of the set, and keep the bound
    pub kind_least : (k : Kind) → k ≢ mof → (k ≢ wnaf → m ≡ largest w) → (ds : List ℤ) → Has (Fractional w m) k w N n ds → (es : List ℤ) → T (all_in m es) → worth es ≡ pos N → weight ds ≤ weight es
    unfolding Has
    kind_least mof h q ds a es t e = absurd (h refl)
    kind_least wnaf h q ds a es t e = fractional_least w m N n set a es t e
    kind_least wmof h q ds a es t e = light_least w N set.wide (rw a (wmof_light w N set.wide n small)) es (rw (q wmof_other) at t) e
    kind_least (closest tie) h q ds a es t e = light_least w N set.wide (closest_light w N set.wide a) es (rw (q closest_other) at t) e

    kind_bound : (k : Kind) → k ≢ mof → (ds : List ℤ) → Has (Fractional w m) k w N n ds → weight ds ≤ (n + w) / w
    unfolding Has
    kind_bound mof h ds a = absurd (h refl)
    kind_bound wnaf h ds a = apart_bound set.wide ds (fractional_apart w m N n set a) n a.length_is
    kind_bound wmof h ds a = light_bound w N set.wide n small (rw a (wmof_light w N set.wide n small))
    kind_bound (closest tie) h ds a = light_bound w N set.wide n small (closest_light w N set.wide a)

-- ---- by number
-- 1 to 5 ask for a form, and 1 alone for MOF
pub asked_one : (f : ℕ) → 1 ≤ f → f ≤ most_form → (k : Kind) × (asked f ≡ one k)
unfolding asked
asked_one zero h l = absurd (omega arith)
asked_one (suc zero) h l = (mof, refl)
asked_one (suc (suc zero)) h l = (wnaf, refl)
asked_one (suc (suc (suc zero))) h l = (wmof, refl)
asked_one (suc (suc (suc (suc zero)))) h l = (closest larger, refl)
asked_one (suc (suc (suc (suc (suc zero))))) h l = (closest smaller, refl)
asked_one (suc (suc (suc (suc (suc (suc f)))))) h l = absurd (omega arith)

asked_mof : (f : ℕ) → asked f ≡ one mof → f ≡ 1
unfolding asked
asked_mof zero e = let z : ◌≡◌ {A = ℕ} 0 1 = cc in absurd (omega arith)
asked_mof (suc zero) e = refl
asked_mof (suc (suc zero)) e = let z : ◌≡◌ {A = ℕ} 0 1 = cc in absurd (omega arith)
asked_mof (suc (suc (suc zero))) e = let z : ◌≡◌ {A = ℕ} 0 1 = cc in absurd (omega arith)
asked_mof (suc (suc (suc (suc zero)))) e = let z : ◌≡◌ {A = ℕ} 0 1 = cc in absurd (omega arith)
asked_mof (suc (suc (suc (suc (suc zero))))) e = let z : ◌≡◌ {A = ℕ} 0 1 = cc in absurd (omega arith)
asked_mof (suc (suc (suc (suc (suc (suc f)))))) e = let z : ◌≡◌ {A = ℕ} 0 1 = cc in absurd (omega arith)

-- 2 asks for wNAF
asked_other : (f : ℕ) (k : Kind) → asked f ≡ one k → k ≢ wnaf → f ≢ 2
unfolding asked
asked_other f k e n z = n (cc (e, z))

module _ (w m N n : ℕ) (set : Between w m) where
  pub form_same : (f : ℕ) (ds es : List ℤ) → FormIn f w m N n ds → FormIn f w m N n es → ds ≡ es
  form_same f ds es a b = go (asked f) a b
    where
      go : (q : Asked) → Given (Fractional w m) q w N n ds → Given (Fractional w m) q w N n es → ds ≡ es
      go (one k) a b = kind_same w m N n set k ds es a b
      go nothing a b = absurd a

  module _ (small : N < 2 ^ n) where
    -- n + 1 places always suffice
    pub form_exists : (f : ℕ) → 1 ≤ f → f ≤ most_form → (ds : List ℤ) × FormIn f w m N n ds
    form_exists f h l = let (k, e) = asked_one f h l in (string_of k w m N n, rw e (kind_is w m N n set small k))

    module _ (f : ℕ) (ds : List ℤ) (F : FormIn f w m N n ds) where
      -- it has the form that is asked for
      form_kind : (k : Kind) × (asked f ≡ one k) × Has (Fractional w m) k w N n ds
      form_kind = go (asked f) refl F
        where
          go : (a : Asked) → asked f ≡ a → Given (Fractional w m) a w N n ds → (k : Kind) × (asked f ≡ one k) × Has (Fractional w m) k w N n ds
          go (one k) e h = (k, e, h)
          go nothing e h = absurd h

      pub form_length : length ds ≡ n + 1
      form_length = let (k, e, h) = form_kind in kind_length w m N n set small k ds h

      pub form_worth : worth ds ≡ pos N
      form_worth = let (k, e, h) = form_kind in kind_worth w m N n set small k ds h

      -- the width of form 1 is 2
      pub form_digits : (f ≡ 1 → w ≡ 2) → T (all_in m ds)
      form_digits q = let (k, e, h) = form_kind in kind_digits w m N n set small k (λ x. q (asked_mof f (e ∙ ap one x))) ds h

      -- from form 2 on no string over the set, of any length, that is worth N is lighter
      pub form_least : 2 ≤ f → (f ≢ 2 → m ≡ largest w) → (es : List ℤ) → T (all_in m es) → worth es ≡ pos N → weight ds ≤ weight es
      form_least l q es t i =
          let (k, e, h) = form_kind in
          kind_least w m N n set small k (λ x. omega (arith, asked_mof f (e ∙ ap one x))) (λ x. q (asked_other f k e x)) ds h es t i

      -- and at most (n + w) / w digits are nonzero, rounded down
      pub form_bound : 2 ≤ f → weight ds ≤ (n + w) / w
      form_bound l = let (k, e, h) = form_kind in kind_bound w m N n set small k (λ x. omega (arith, asked_mof f (e ∙ ap one x))) ds h

-- forms from 2 on are no heavier in a larger set, of this width or another: the digits of m are digits of l, over which the string of l is the lightest
pub form_lighter : (w m v l N n : ℕ) → Between w m → Between v l → m ≤ l → N < 2 ^ n → (f : ℕ) → 2 ≤ f → (f ≢ 2 → l ≡ largest v) → (ds es : List ℤ) → FormIn f w m N n ds → FormIn f v l N n es → weight es ≤ weight ds
form_lighter w m v l N n set other more small f h q ds es a b =
    form_least v l N n other small f es b h q ds (all_larger more ds (form_digits w m N n set small f ds a (λ e. absurd (omega arith)))) (form_worth w m N n set small f ds a)

-- ---- at a whole width
-- what the set's wNAF has, the width's has, and the other way round
kind_map : (A B : Strings) (w N n : ℕ) (ds : List ℤ) → (A N n ds → B N n ds) → (q : Asked) → Given A q w N n ds → Given B q w N n ds
unfolding Has
kind_map A B w N n ds f (one mof) a = a
kind_map A B w N n ds f (one wnaf) a = f a
kind_map A B w N n ds f (one wmof) a = a
kind_map A B w N n ds f (one (closest tie)) a = a
kind_map A B w N n ds f nothing a = a

pub form_whole : (w N n : ℕ) → 2 ≤ w → (f : ℕ) (ds : List ℤ) → FormIn f w (largest w) N n ds ↔ Form f w N n ds
form_whole w N n two f ds =
    let (there, back) = least_is w two N n ds in
    (kind_map (Fractional w (largest w)) (Wnaf w) w N n ds there (asked f), kind_map (Wnaf w) (Fractional w (largest w)) w N n ds back (asked f))
