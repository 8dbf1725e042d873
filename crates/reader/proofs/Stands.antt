-- What a state of an accepted reader holds of wMOF's string: `Stands`. Each call passes one place of it and gives the digit there, so all calls together give
-- the string from the top. Assumes nothing.
use mathlib.Core.Path.{◌≡◌, refl, sym, ap, subst, ◌∙◌}
use mathlib.Core.Logic.{◌≢◌}
use mathlib.Core.List.{List, [], ◌∷◌, reverse, reverse-append}
use Prim.Native.Nat.{ℕ, zero, suc, ◌+◌, ◌-◌, ◌<◌, ◌≤◌}
use native.Mathlib.Decide.{dec_lt, ℕ_discrete}
use native.Mathlib.Nat.{le_refl}
use native.Mathlib.Omega.{arith}
use lib.Dec.{eqb, eqb→eq}
use lib.IntN.{ℤ, pos}
use lib.ListN.{length, get_or, take}
use lib.Seq.{take-suc, take_all}
use Rattle.laws.proofs.Choices.{either, unequal}
use Rattle.meaning.specs.Scalars.{number, order_of, bit_count, bit, below, most_bytes}
use Rattle.meaning.specs.Windows.{odd_part}
use Rattle.meaning.specs.Wmof.{window_at, spot, wmof}
use Rattle.meaning.specs.Reading.{Read, digit, done, read_at}
use Rattle.forms.proofs.Places.{Agrees, agrees_all, agrees_same, agrees_open}
use Rattle.forms.proofs.Wmof.{under_ok}
use Rattle.width.specs.Widths.{Wide}
use Rattle.reader.specs.declared.State.{State}
use Rattle.reader.specs.declared.Taken.{Taken}
use Rattle.reader.specs.States.{ready, digit_at, passed, opened, taken, call, moved, after}
use Rattle.reader.specs.Calls.{read_of}
use Rattle.reader.proofs.Takes.{opened_none, opened_some, takes_inside, takes_opened, takes_none}

-- ---- calls from any state
module _ (s : List ℕ) where
  -- what the call after k others gives
  abbrev pub given : State → ℕ → Read
  given q k = read_of (call s (after s q k)).next

  -- one call, and then k more
  shift : (q : State) (k : ℕ) → after s q (suc k) ≡ after s (moved q (call s q)) k
  unfolding after
  shift q zero = refl
  shift q (suc k) = ap (λ x. moved x (call s x)) (shift q k)

  later : (q : State) (k : ℕ) → given q (suc k) ≡ given (moved q (call s q)) k
  later q k = ap (λ x. read_of (call s x).next) (shift q k)

  -- with no place to come, done for ever
  pub given_done : (q : State) → q.place ≡ 0 → (k : ℕ) → given q k ≡ done
  unfolding after
  given_done q e zero = sym (ap (λ t. read_of t.next) (takes_none (order_of q.order) s q.place q.width q.pending q.spot q.floor (omega arith)))
  given_done q e (suc k) =
      let t = takes_none (order_of q.order) s q.place q.width q.pending q.spot q.floor (omega arith) in
      later q k ∙ given_done (moved q (call s q)) (sym (ap (λ x. x.place) t)) k

-- x is a window's digit at place j
digit_is : (j : ℕ) (d : ℤ) (p : ℕ) {x : ℤ} → (j ≡ p → x ≡ d) → (j ≢ p → x ≡ pos 0) → x ≡ digit_at j d p
digit_is j d p {x} f g = either (λ y. x ≡ y) (eqb j p) (λ t. f (eqb→eq j p t)) (λ t. g (unequal j p t))

module _ (w b : ℕ) (s : List ℕ) (law : Wide w) (short : length s ≤ most_bytes) where
  abbrev N : ℕ
  N = number (order_of b) s

  abbrev L : ℕ
  L = bit_count s + 1

  abbrev ds : List ℤ
  ds = wmof w N (bit_count s)

  -- with m places to come: of those from f up the digit d stands at place p, and the others are 0; under f the rule goes on
  record Stands (m : ℕ) (d : ℤ) (p f : ℕ) : Type 0 where
    fits : m ≤ L
    low : f ≤ m
    window : (j : ℕ) → f ≤ j → j < m → get_or ds j (pos 0) ≡ digit_at j d p
    under : Agrees w N L f ds

  -- ---- a call
  -- it passes place i
  record Passes (i : ℕ) (t : Taken) : Type 0 where
    digit_of : ℤ
    at : ℕ
    floor : ℕ
    is : t ≡ passed i digit_of at floor
    stands : Stands i digit_of at floor
    gives : digit_at i digit_of at ≡ get_or ds i (pos 0)

  -- where the window of the place is known
  passes : {i : ℕ} {t : Taken} (d : ℤ) (p f : ℕ) → passed i d p f ≡ t → suc i ≤ L → f ≤ i → ((j : ℕ) → f ≤ j → j < suc i → get_or ds j (pos 0) ≡ digit_at j d p)
      → Agrees w N L f ds → Passes i t
  passes {i} d p f e h l g a =
      record {
        digit_of = d;
        at = p;
        floor = f;
        is = sym e;
        stands = record { fits = omega arith; low = l; window = λ j x y. g j x (omega arith); under = a };
        gives = sym (g i l (omega arith));
      }

  -- where none is open
  opens : (i : ℕ) → suc i ≤ L → Agrees w N L (suc i) ds → Passes i (opened w N i)
  opens i h a = go (ℕ_discrete (bit N i) (below N i))
    where
      go : Dec (bit N i ≡ below N i) → Passes i (opened w N i)
      go (yes e) =
          let (z, b) = agrees_same w N L law.0 i h ds a e in
          let here : (j : ℕ) → i ≤ j → j < suc i → get_or ds j (pos 0) ≡ pos 0 = λ j x y. ap (λ n. get_or ds n (pos 0)) (omega arith) ∙ z in
          passes (pos 0) 0 i (opened_none w N i refl e refl) h (le_refl i) (λ j x y. digit_is j (pos 0) 0 (λ _. here j x y) (λ _. here j x y)) b
      go (no n) =
          let v = window_at w N i in
          let (u, z, b) = agrees_open w N L law.0 i h ds a n in
          passes (odd_part w v) (spot w i v) (suc i - w) (opened_some w N i refl n refl refl refl) h (omega arith)
          (λ j x y. digit_is j (odd_part w v) (spot w i v) (λ e. ap (λ k. get_or ds k (pos 0)) e ∙ u) (z j x y)) b

  -- anywhere
  passing : (i : ℕ) (d : ℤ) (p f : ℕ) → Stands (suc i) d p f → Passes i (taken (order_of b) s (suc i) w d p f)
  passing i d p f S = go (dec_lt f (suc i))
    where
      high : i ≡ suc i - 1
      high = omega arith

      go : Dec (f < suc i) → Passes i (taken (order_of b) s (suc i) w d p f)
      go (yes h) = passes d p f (ap (λ n. passed n d p f) high ∙ takes_inside (order_of b) s (suc i) w d p f h) S.fits (omega arith) S.window S.under
      go (no h) =
          let e : f ≡ suc i = omega arith in
          subst (λ t. Passes i t) (ap (λ n. opened w N n) high ∙ takes_opened (order_of b) s (suc i) w d p f (omega arith) (omega arith) (omega arith) law)
          (opens i S.fits (subst (λ m. Agrees w N L m ds) e S.under))

  -- ---- all calls
  -- the places of the string
  pub size : length ds ≡ L
  unfolding wmof
  size = (under_ok w N L law.0 L L (le_refl L) (le_refl L)).size

  -- the low m of them from the top
  from_top : ℕ → List ℤ
  from_top m = reverse (take m ds)

  top : (i : ℕ) → suc i ≤ L → from_top (suc i) ≡ get_or ds i (pos 0) ∷ from_top i
  unfolding from_top
  top i h = ap reverse (take-suc ds i (pos 0) (omega (arith, size))) ∙ reverse-append (take i ds) (get_or ds i (pos 0) ∷ [])

  abbrev state : (m : ℕ) → ℤ → (p f : ℕ) → State
  state m d p f = record { place = m; width = w; pending = d; spot = p; floor = f; refusal = 0; order = b }

  reads : (k m : ℕ) (d : ℤ) (p f : ℕ) → Stands m d p f → given s (state m d p f) k ≡ read_at (from_top m) k
  unfolding after read_at from_top
  reads k zero d p f S = given_done s (state 0 d p f) refl k
  reads zero (suc i) d p f S =
      let P = passing i d p f S in
      ap (λ t. read_of t.next) P.is ∙ ap digit P.gives ∙ sym (ap (λ x. read_at x 0) (top i S.fits))
  reads (suc k) (suc i) d p f S =
      let P = passing i d p f S in
      let q = state (suc i) d p f in
      later s q k ∙ ap (λ t. given s (moved q t) k) P.is ∙ reads k i P.digit_of P.at P.floor P.stands
      ∙ sym (ap (λ x. read_at x (suc k)) (top i S.fits))

  -- from the start, with the order's byte b
  pub reads_all : (k : ℕ) → given s (ready 0 w b L) k ≡ read_at (reverse ds) k
  unfolding from_top
  reads_all k =
      reads k L (pos 0) 0 L (record { fits = le_refl L; low = le_refl L; window = λ j x y. absurd (omega arith); under = agrees_all w N (bit_count s) })
      ∙ ap (λ x. read_at (reverse x) k) (take_all L ds (omega (arith, size)))
