-- What a call takes, case by case.
-- Assumes nothing.
use mathlib.Core.Path.{◌≡◌, refl, ◌∙◌}
use mathlib.Core.Logic.{◌≢◌, ◌⊎◌, inl, inr}
use mathlib.Core.Bool.{◌&&◌}
use mathlib.Core.List.{List}
use Prim.Native.Nat.{ℕ, suc, ◌-◌, ◌≤◌, ◌<◌}
use native.Mathlib.Omega.{arith}
use lib.Dec.{T, eqb, leb, ltb, ltb→lt}
use lib.IntN.{ℤ, pos}
use borrow.Author.Tests.{lt-ltb, le-ltb, le-leb, lt-leb, eq-eqb, ne_eqb}
use Rattle.laws.proofs.Choices.{either, and_both}
use Rattle.meaning.specs.Scalars.{Order, number, bit, below}
use Rattle.meaning.specs.Digits.{least_width, most_width, most_places}
use Rattle.meaning.specs.Windows.{odd_part}
use Rattle.meaning.specs.Wmof.{window_at, spot}
use Rattle.width.specs.Widths.{Wide}
use Rattle.reader.specs.declared.Taken.{Taken}
use Rattle.std.specs.Prelude.{Some, OnSome}
use Rattle.reader.specs.States.{digit_at, passed, opened, openable, ended, fresh, taken}

-- t passes place i, in a window down to its floor
pub record Passes (i : ℕ) (t : Taken) : Type 0 where
  pub next_is : t.next ≡ Some (digit_at i t.pending t.spot)
  pub place_is : t.place ≡ i
  pub floor_le : t.floor ≤ i

-- ---- where no window is open
module _ (w N i : ℕ) where
  -- equal bits
  pub opened_none : {r : Taken} {f : ℕ} → r ≡ passed i (pos 0) 0 f → bit N i ≡ below N i → f ≡ i → r ≡ opened w N i
  unfolding opened
  opened_none t e l = t ∙ rw l (simp (eq-eqb _ _ e))

  -- a window
  pub opened_some : {r : Taken} {u : ℤ} {p f : ℕ} → r ≡ passed i u p f → bit N i ≢ below N i → u ≡ odd_part w (window_at w N i) → p ≡ spot w i (window_at w N i) → f ≡ suc i - w
      → r ≡ opened w N i
  unfolding opened
  opened_some t d e k l = t ∙ rw (e, k, l) (simp (ne_eqb _ _ d))

  -- either way place i is passed, and where the window ends is no higher
  pub opened_passes : Wide w → Passes i (opened w N i)
  unfolding opened
  opened_passes l =
      either (Passes i) (eqb (bit N i) (below N i)) (λ _. record { next_is = refl; place_is = refl; floor_le = omega arith }) (λ _. record { next_is = refl; place_is = refl; floor_le = omega (arith, l.0) })

module _ (o : Order) (s : List ℕ) (m w : ℕ) (d : ℤ) (p f : ℕ) where
  -- one can open
  pub fresh_opened : 0 < m → m ≤ most_places → Wide w → opened w (number o s) (m - 1) ≡ fresh o s m w d p f
  unfolding fresh
  fresh_opened a b l = simp (lt-ltb _ _ a, le-leb _ _ b, le-leb _ _ l.0, le-leb _ _ l.1)

  -- no place to come
  pub fresh_none : m ≤ 0 → ended d p f ≡ fresh o s m w d p f
  unfolding fresh
  fresh_none h = simp (le-ltb 0 m h)

  -- more than any string has
  pub fresh_over : most_places < m → ended d p f ≡ fresh o s m w d p f
  unfolding fresh
  fresh_over b = simp (lt-ltb 0 m (omega arith), lt-leb _ _ b)

  -- no width
  pub fresh_bad : 0 < m → m ≤ most_places → (w < least_width) ⊎ (most_width < w) → ended d p f ≡ fresh o s m w d p f
  unfolding fresh
  fresh_bad a b (inl l) = simp (lt-ltb _ _ a, le-leb _ _ b, lt-leb _ _ l)
  fresh_bad a b (inr l) = simp (lt-ltb _ _ a, le-leb _ _ b, le-leb least_width w (omega arith), lt-leb _ _ l)

  -- ---- a call
  -- inside a window
  pub takes_inside : f < m → passed (m - 1) d p f ≡ taken o s m w d p f
  unfolding taken
  takes_inside h = simp (lt-ltb _ _ h)

  -- where none is open
  pub takes_fresh : m ≤ f → fresh o s m w d p f ≡ taken o s m w d p f
  unfolding taken
  takes_fresh h = simp (le-ltb _ _ h)

  -- where one can open
  pub takes_opened : m ≤ f → 0 < m → m ≤ most_places → Wide w → opened w (number o s) (m - 1) ≡ taken o s m w d p f
  takes_opened h a b l = fresh_opened a b l ∙ takes_fresh h

  -- no place to come
  pub takes_none : m ≤ 0 → ended d p f ≡ taken o s m w d p f
  takes_none h = fresh_none h ∙ takes_fresh (omega arith)

  -- a digit is one of the places to come
  abbrev Falls : Taken → Type 0
  Falls t = OnSome t.next (t.place < m)

  openable_some : T (openable m w) → 0 < m
  openable_some t =
      let (wide, _) = and_both (ltb 0 m && leb m most_places && leb least_width w) (leb w most_width) t in
      let (places, _) = and_both (ltb 0 m && leb m most_places) (leb least_width w) wide in
      ltb→lt 0 m (and_both (ltb 0 m) (leb m most_places) places).0

  opened_falls : 0 < m → Falls (opened w (number o s) (m - 1))
  unfolding opened
  opened_falls h = either Falls (eqb (bit (number o s) (m - 1)) (below (number o s) (m - 1))) (λ _. omega arith) (λ _. omega arith)

  pub takes_falls : let t = taken o s m w d p f in OnSome t.next (t.place < m)
  unfolding fresh taken
  takes_falls = either Falls (ltb f m) (λ t. let h = ltb→lt f m t in omega arith) (λ _. either Falls (openable m w) (λ t. opened_falls (openable_some t)) (λ _. tt))
