-- Windows from the top place down, a stretch at a time: what a window does to the string that the buffer comes to, and which windows a stretch tells of.
-- Assumes nothing.
use mathlib.Core.Path.{◌≡◌, refl, sym, ap, subst, ◌∙◌}
use mathlib.Core.Logic.{◌≢◌}
use mathlib.Core.Bool.{Bool, true, false}
use mathlib.Core.List.{List}
use Prim.Native.Nat.{ℕ, zero, suc, ◌+◌, ◌*◌, ◌-◌, ◌/◌, ◌%◌, ◌^◌, ◌<◌, ◌≤◌}
use native.Mathlib.Omega.{arith}
use native.Mathlib.Decide.{dec_le, dec_lt, ℕ_discrete}
use native.Mathlib.Nat.{add-zero, div-eq_of_lt}
use lib.Count.{count_trailing_zeros}
use lib.IntN.{ℤ, pos, ◌-ℤ◌}
use lib.ListN.{length, get_or, set, replicate, length-set, length-replicate}
use lib.Pow.{pow_mono}
use Rattle.laws.specs.Deciding.{Decides}
use Rattle.meaning.specs.Scalars.{bit, below}
use Rattle.meaning.specs.Digits.{most_places}
use Rattle.meaning.specs.Windows.{leading, second, window_worth, window_bits, odd_part, twos}
use Rattle.meaning.specs.Wmof.{window_at, spot}
use Rattle.meaning.specs.Closest.{larger, smaller}
use Rattle.forms.proofs.DigitSets.{digit_some}
use Rattle.forms.proofs.Rest.{rest, Differ, differ}
use Rattle.forms.proofs.Wmof.{At, zero_at}
use Rattle.forms.proofs.Ties.{Lowest, lowest_of, lowest_bit, opens_some}
use Rattle.forms.proofs.Loops.{from, from_same, from_open, from_last, last_at, from_wmof, from_closest}
use Rattle.table.specs.declared.Window.{Window}
use Rattle.windows.specs.declared.opening.Place.{Place}
use Rattle.windows.specs.Openings.{Placed}
use Rattle.windows.specs.Parts.{Parts}
use Rattle.windows.proofs.Opened.{opened, opened_at, opened_last, leads, follows, worked, Puts, puts}
use Rattle.places.specs.Openings.{Highest, openings}
use Rattle.places.proofs.Openings.{clear_put, seen, none_open, some_open, inside, none_over, opens_there, left_open}
use Rattle.descending.specs.Sweeps.{Swept, Yielded, Untied, Turns, Halts, Descent, bit_of, Turned}
use Rattle.descending.specs.declared.Turn.{Turn}
use Rattle.descending.specs.declared.Turn.TheVariants.{Never, AtOne, AtZero}

-- ---- a turn with m places left
module _ (b w N t i m : ℕ) (two : 2 ≤ w) (above : suc i ≡ m) (d : List ℤ) where
  -- the digit is put
  put_is : (v : ℤ) (p : Place) → Puts w i v p → set d (spot w i v) (odd_part w v) ≡ set d p.spot p.unit
  put_is v p P = ap (λ x. set d x (odd_part w v)) (sym P.spot_is) ∙ ap (set d p.spot) (sym P.unit_is)

  -- a window: with its digit the rule makes the same string of the places under it
  pub turn_open : (p : Place) → Puts w i (window_at w N i) p → bit N i ≢ below N i → (i ≡ w + t → bit N i ≢ b)
      → from b w N t m d ≡ from b w N t p.left (set d p.spot p.unit)
  turn_open p P n k =
      ap (λ x. from b w N t x d) (sym above) ∙ from_open b w N t two i d n k ∙ ap (from b w N t (suc i - w)) (put_is (window_at w N i) p P)
      ∙ ap (λ x. from b w N t x (set d p.spot p.unit)) (sym P.left_is)

  -- the window of a tie: it makes the digit of one less, and a 1 at the lowest set bit
  pub turn_last : (p : Place) → Puts w i (window_at w N i -ℤ pos 1) p → bit N i ≢ below N i → i ≡ w + t → bit N i ≡ b
      → from b w N t m d ≡ set (set d p.spot p.unit) t (pos 1)
  turn_last p P n e k =
      ap (λ x. from b w N t x d) (sym above) ∙ from_last b w N t two i d n e k ∙ ap (λ x. set x t (pos 1)) (put_is (window_at w N i -ℤ pos 1) p P)

-- ---- the window at place i that may turn: it opens w places above the lowest set bit t
module _ (w N t i : ℕ) (two : 2 ≤ w) (low : 0 < N → Lowest N t) (tie : i ≡ w + t) (n : bit N i ≢ below N i) where
  differs : Differ (bit N i) (below N i)
  differs = differ (bit N i) (below N i) (omega arith) (omega arith) n

  pub turn_at : At w i (rest N (suc i)) (window_at w N i -ℤ pos 1) (pos (2 ^ t))
  turn_at = last_at 1 w N t two low i differs tie

  pub turn_odd : window_bits w N i % 2 ≡ 1
  turn_odd = ap (λ x. window_bits w N x % 2) tie ∙ opened_last w N t ∙ lowest_bit N t (low (opens_some N i differs))

-- ---- the window of the tie, read w places above the lowest set bit t
module _ (w N n t : ℕ) (two : 2 ≤ w) (small : N < 2 ^ n) (low : t ≡ count_trailing_zeros n N)
    (opens : bit N (count_trailing_zeros n N + w) ≢ below N (count_trailing_zeros n N + w)) where
  abbrev j : ℕ
  j = t + w

  opens_here : bit N j ≢ below N j
  opens_here = subst (λ x. bit N (x + w) ≢ below N (x + w)) (sym low) opens

  lowest : 0 < N → Lowest N t
  lowest h = subst (Lowest N) (sym low) (lowest_of larger w N n two small h)

  over : j ≡ w + t
  over = omega arith

  at_tie : At w j (rest N (suc j)) (window_at w N j -ℤ pos 1) (pos (2 ^ t))
  at_tie = turn_at w N t j two lowest over opens_here

  module _ {s : ℕ} (read : s ≡ window_bits w N j) where
    pub tie_differ : leading w s ≢ second w s
    tie_differ = rw read (opened w N j two opens_here)

    pub tie_odd : 1 ≤ s % 2
    tie_odd = omega (arith, ap (λ x. x % 2) read, turn_odd w N t j two lowest over opens_here)

    -- worked out, less one, and placed
    module _ {y : Window} {p : Place} (out : Parts w (odd_part w (window_worth w s -ℤ pos 1)) (twos w (window_worth w s -ℤ pos 1)) y) (placed : Placed w y (j + 1) p) where
      puts_less : Puts w j (window_at w N j -ℤ pos 1) p
      puts_less = puts j (window_at w N j -ℤ pos 1) (omega arith) (rw read at out) placed

      pub tie_digit : p.unit ≢ pos 0
      tie_digit e = digit_some at_tie.digit (sym puts_less.unit_is ∙ e)

      pub tie_yields : (d : List ℤ) {d' d'' : List ℤ} → d' ≡ set d p.spot p.unit → d'' ≡ set d' t (pos 1) → Yielded w N (count_trailing_zeros n N) d d''
      tie_yields d {d'} {d''} e f =
          let here : Yielded w N t d d'' =
          record {
            comes = λ b k. turn_last b w N t j (j + 1) two (omega arith) d p puts_less opens_here over k ∙ sym (f ∙ ap (λ x. set x t (pos 1)) e);
          } in
          subst (λ x. Yielded w N x d d'') low here

-- where it does not, none does, and a sweep halts at the end; where it does, it opens, bit b leads, and the sweep halts over it
module _ (w N t : ℕ) {b s : ℕ} {r : Bool} (two : 2 ≤ w) (seen : s ≡ window_bits w N (t + w)) (turns : Decides r (Turns w s b)) where
  abbrev tie : ℕ
  tie = t + w

  pub halt_none : r ≡ false → Halts b w N t 0
  halt_none e = record { none = λ z m. untied; some = λ n. absurd (n refl) }
    where
      untied : {m : ℕ} → Untied b w N t 0 m
      untied j f h k n z =
          let q : j ≡ tie = omega arith in
          turns.no e ((λ x. (rw q at n) (sym (leads w N tie s two seen) ∙ x ∙ follows w N tie s two seen)), leads w N tie s two seen ∙ rw q at z)

  pub halt_some : r ≡ true → Halts b w N t (t + w + 1)
  halt_some e =
      let (n, l) = turns.yes e in
      let opens : bit N tie ≢ below N tie = λ x. n (leads w N tie s two seen ∙ x ∙ sym (follows w N tie s two seen)) in
      record { none = λ z. absurd (omega arith); some = λ z. (refl, opens, sym (leads w N tie s two seen) ∙ l) }

-- ---- the descent, with t the lowest set bit
-- a window that opens opens in the scalar or right over it
opens_within : (N n i : ℕ) → N < 2 ^ n → bit N i ≢ below N i → i ≤ n
opens_within N n i small opens = go (dec_le i n)
  where
    none : (m : ℕ) → m < 2 ^ i → m / 2 ^ i % 2 ≡ 0
    none m l = ap (λ q. q % 2) (div-eq_of_lt l)

    go : Dec (i ≤ n) → i ≤ n
    go (yes h) = h
    go (no h) =
        let k = pow_mono {i = suc n} {j = i} (omega arith) in
        absurd (opens (none N (omega (arith, k)) ∙ sym (none (2 * N) (omega (arith, k)))))

module _ {b w N t n : ℕ} where
  -- it starts with a buffer of zeros
  pub descent_start : {floor : ℕ} (z d : List ℤ) → Halts b w N t floor → N < 2 ^ n → length z ≡ n + 1 → d ≡ replicate (length z) (pos 0) → Descent b w N t n floor (length z) d
  descent_start {floor} z d h small l e =
      let k = ap length e ∙ length-replicate (length z) (pos 0) ∙ l in
      record {
        same_length = k;
        within = (rw l (low (ℕ_discrete floor 0)), omega (arith, l));
        clear = λ j l. ap (λ x. get_or x j (pos 0)) e ∙ zero_at (length z) j;
        comes = sym (ap (λ x. from b w N t x d) l ∙ ap (from b w N t (n + 1)) (e ∙ ap (λ x. replicate x (pos 0)) l));
        none = λ q. h.none q (length z);
        some = h.some;
      }
    where
      low : Dec (floor ≡ 0) → floor ≤ n + 1
      low (yes q) = omega arith
      low (no q) = let s = h.some q in omega (arith, s.0, opens_within N n (t + w) small s.1)

-- all windows are written
pub descent_end : (turn : Turn) (w N n : ℕ) {ds : List ℤ} → 2 ≤ w → N < 2 ^ n → from (bit_of turn) w N (count_trailing_zeros n N) (n + 1) (replicate (n + 1) (pos 0)) ≡ ds → Turned turn w N n ds
descent_end Never w N n two small e = sym e ∙ from_wmof w N n two small
descent_end AtOne w N n two small e = sym e ∙ from_closest w N n two small larger
descent_end AtZero w N n two small e = sym e ∙ from_closest w N n two small smaller

-- ---- places are passed
-- whose bits are those under them
from_skip : (b w N t : ℕ) → 2 ≤ w → (k i : ℕ) (d : List ℤ) → ((q : ℕ) → i ≤ q → q < i + k → bit N q ≡ below N q) → from b w N t (i + k) d ≡ from b w N t i d
from_skip b w N t two zero i d same = ap (λ m. from b w N t m d) (add-zero i)
from_skip b w N t two (suc k) i d same =
    let m : i + suc k ≡ suc (i + k) = omega arith in
    ap (λ m. from b w N t m d) m ∙ from_same b w N t two (i + k) d (same (i + k) (omega arith) (omega arith)) ∙ from_skip b w N t two k i d (λ q l h. same q l (omega arith))

module _ {w N floor m : ℕ} {ds : List ℤ} (two : 2 ≤ w) where
  pub swept_pass : {left : ℕ} {d : List ℤ} (i : ℕ) → Swept w N floor m ds left d → i ≤ left → ((q : ℕ) → i ≤ q → q < left → bit N q ≡ below N q) → Swept w N floor m ds i d
  swept_pass {left} {d} i s h same =
      let e : i + (left - i) ≡ left = omega arith in
      record {
        same_length = s.same_length;
        fewer = omega (arith, s.fewer);
        clear = λ j l. s.clear j (omega arith);
        comes = λ b t u. s.comes b t u ∙ ap (λ x. from b w N t x d) (sym e) ∙ from_skip b w N t two (left - i) i d (λ q l k. same q l (omega arith));
      }

  -- a window is written
  pub swept_put : {d d' : List ℤ} (i : ℕ) (p : Place) → Swept w N floor m ds (suc i) d → floor ≤ i → bit N i ≢ below N i → Puts w i (window_at w N i) p → d' ≡ set d p.spot p.unit
      → Swept w N floor m ds p.left d'
  swept_put {d} {d'} i p s over n P e =
      let at = opened_at w N i two n in
      record {
        same_length = ap length e ∙ length-set d p.spot p.unit ∙ s.same_length;
        fewer = omega (arith, s.fewer, P.left_is);
        clear = clear_put d p.spot p.unit (suc i) p.left s.clear (omega (arith, P.left_is, P.spot_is, at.from)) (omega (arith, P.left_is)) e;
        comes = λ b t u.
            s.comes b t u ∙ turn_open b w N t i (suc i) two refl d p P n (λ k. u i over (omega (arith, s.fewer)) k n) ∙ ap (from b w N t p.left) (sym e);
      }

-- ---- what stands at a turn: the windows over the places left are written, and the places under them where one opens are told
pub record Down (w N lowest x floor m : ℕ) (ds : List ℤ) (opens left : ℕ) (d : List ℤ) : Type 0 where
  pub swept : Swept w N floor m ds left d
  pub opens_are : opens ≡ openings (w - 1) x (left - lowest)

module _ {w N lowest x floor m opens left : ℕ} {ds d : List ℤ} (two : 2 ≤ w) (same : x % 2 ^ 56 ≡ N * 2 ^ w / 2 ^ lowest % 2 ^ 56)
    (bounds : (floor ≤ lowest) × (lowest < m) × (m + w ≤ lowest + 56)) (g : Down w N lowest x floor m ds opens left d) where
  one : 0 < w
  one = omega arith

  abbrev u : ℕ
  u = left - lowest

  room : u + w ≤ 56
  room = omega (arith, g.swept.fewer, bounds)

  pub down_some : opens ≢ 0 → 2 ^ (w - 1) ≤ opens
  down_some n = rw g.opens_are (some_open w N lowest x one same u room (rw g.opens_are at n))

  -- the end: no window opens any more
  pub down_end : {r : ℕ} → opens ≡ 0 → (left < lowest → r ≡ left) → (lowest ≤ left → r ≡ lowest) → (r < m) × Swept w N floor m ds r d
  down_end {r} e low high = go (dec_lt left lowest)
    where
      go : Dec (left < lowest) → (r < m) × Swept w N floor m ds r d
      go (yes h) = (omega (arith, low h, bounds), rw (low h) g.swept)
      go (no h) =
          let k : lowest ≤ left = omega arith in
          let all = none_open w N lowest x one same u room (sym g.opens_are ∙ e) in
          let at : (q : ℕ) → lowest ≤ q → lowest + (q - lowest) ≡ q = λ q l. omega arith in
          (omega (arith, high k, bounds), rw (high k) (swept_pass two lowest g.swept k (λ q l n. rw (at q l) at (all (q - lowest) (omega arith)))))

  -- the highest place where one opens
  module _ (r : ℕ) (top : Highest (w - 1) opens r) where
    abbrev i : ℕ
    i = lowest + r

    found : Highest (w - 1) (openings (w - 1) x u) r
    found = rw g.opens_are at top

    pub down_under : i < left
    down_under = omega (arith, inside w N lowest x one same u room r found)

    pub down_seen : x / 2 ^ r % 2 ^ (w + 1) ≡ window_bits w N i
    down_seen = seen w N lowest x one same r (omega (arith, down_under, g.swept.fewer, bounds))

    pub down_opens : bit N i ≢ below N i
    down_opens = opens_there w N lowest x one same u room r found

    -- its digit is put
    pub down_put : {opens' : ℕ} {d' : List ℤ} (p : Place) → Puts w i (window_at w N i) p → d' ≡ set d p.spot p.unit → opens' ≡ opens % 2 ^ r → Down w N lowest x floor m ds opens' p.left d'
    down_put p P e o =
        let at : (q : ℕ) → suc i ≤ q → lowest + (q - lowest) ≡ q = λ q l. omega arith in
        let passed = swept_pass two (suc i) g.swept (omega (arith, down_under)) (λ q l n. rw (at q l) at (none_over w N lowest x one same u room r found (q - lowest) (omega arith) (omega arith))) in
        let k : r + 1 - w ≡ p.left - lowest = omega (arith, P.left_is) in
        record {
          swept = swept_put two i p passed (omega (arith, bounds)) down_opens P e;
          opens_are = o ∙ ap (λ t. t % 2 ^ r) g.opens_are ∙ left_open w N lowest x one same u room r found ∙ ap (openings (w - 1) x) k;
        }

    -- the window s that is read there
    module _ {s : ℕ} (read : s ≡ x / 2 ^ r % 2 ^ (w + 1)) where
      read_is : s ≡ window_bits w N i
      read_is = read ∙ down_seen

      pub down_differ : leading w s ≢ second w s
      down_differ = rw read_is (opened w N i two down_opens)

      -- worked out
      module _ {y : Window} (out : Parts w (odd_part w (window_worth w s -ℤ pos 0)) (twos w (window_worth w s -ℤ pos 0)) y) where
        parts : Parts w (odd_part w (window_at w N i)) (twos w (window_at w N i)) y
        parts = worked w N i s two read_is out

        at : At w i (rest N (suc i)) (window_at w N i) (rest N (suc i - w))
        at = opened_at w N i two down_opens

        pub down_room : left ≤ most_places → (i < most_places) × (y.twos ≤ w - 1) × (w - 1 ≤ i + y.twos)
        down_room h = omega (arith, down_under, parts.twos_is, parts.few, at.over)

        -- and placed
        module _ {p : Place} (placed : Placed (w - 1 + 1) y (i + 1) p) where
          pub down_puts : Puts w i (window_at w N i) p
          down_puts =
              let e : w - 1 + 1 ≡ w = omega arith in
              puts i (window_at w N i) (omega arith) parts (subst (λ v. Placed v y (i + 1) p) e placed)

          pub down_spot : p.spot < left
          down_spot = omega (arith, down_puts.spot_is, at.under, down_under)

          pub down_fewer : p.left < left
          down_fewer = omega (arith, down_puts.left_is, down_under)

          pub down_digit : p.unit ≢ pos 0
          down_digit e = digit_some at.digit (sym down_puts.unit_is ∙ e)
