-- The closest form from wMOF's windows: they differ only at a tie, which is a window that opens w places above the lowest set bit. So the function `closest_of`
-- gives the closest form, which exists on n + 1 places and is one only, for both tie rules. Assumes nothing.
use mathlib.Core.Path.{◌≡◌, refl, sym, ap, ◌∙◌, subst}
use mathlib.Core.Logic.{◌≢◌}
use mathlib.Core.Bool.{◌&&◌}
use mathlib.Core.List.{List}
use Prim.Native.Nat.{ℕ, zero, suc, ◌+◌, ◌*◌, ◌-◌, ◌/◌, ◌%◌, ◌^◌, ◌<◌, ◌≤◌}
use native.Mathlib.Omega.{arith}
use native.Mathlib.Decide.{dec_le}
use native.Mathlib.Numerals.{add-one}
use native.Mathlib.Nat.{pow-succ', mod-lt, mul-le-mul_right, lt_of_mul-lt-mul_left, div-eq_of_eq-mul_right, mul-mod_right, div-add-mod}
use lib.ListN.{length, get_or, set, replicate, length-set, length-replicate}
use lib.Seq.{get_or-set_other}
use lib.Count.{count_trailing_zeros}
use lib.Dec.{eqb, eqb→eq}
use lib.Pow.{pow_pos, pow_mono, pow-add}
use lib.IntN.{ℤ, pos, nat_abs, ◌+ℤ◌, ◌-ℤ◌, ◌*ℤ◌}
use Rattle.laws.proofs.Integers.{up, dn, diff, diff_is, add_is, parts, diffs, ring, abs_is, cancel, same_left}
use Rattle.laws.proofs.Powers.{trailing}
use Rattle.laws.proofs.Choices.{either, equal, unequal, and_both, not_and}
use Rattle.meaning.specs.Scalars.{bit, below}
use Rattle.meaning.specs.Windows.{odd_part}
use Rattle.meaning.specs.Wmof.{window_at, spot}
use Rattle.meaning.specs.Closest.{Tie, larger, smaller, IsClosest, Takes, done, take, Closest}
use Rattle.forms.specs.Closest.{turn, closest_under, closest_of}
use Rattle.forms.proofs.Naf.{Digit}
use Rattle.forms.proofs.DigitSets.{digit_in, digit_some}
use Rattle.forms.proofs.Rest.{rest, rest_suc, rest_zero, rest_all, rest_same, rest_big, Differ, rise, fall, differ}
use Rattle.forms.proofs.Wmof.{Step, step_at, window_step, zero_at}
use Rattle.forms.proofs.Nearest.{candidate, Round, Tied, round_closest, self_candidate, self_closest, remains}
use Rattle.forms.proofs.Taken.{takes_same}

-- ---- a tie
-- N = 2 ^ t · o, o odd
abbrev pub Lowest : ℕ → ℕ → Type 0
Lowest N t = (o : ℕ) × (N ≡ 2 ^ t * o) × (o % 2 ≡ 1)

-- there is one lowest bit only
lowest_le : (N j t : ℕ) → Lowest N j → Lowest N t → t ≤ j
lowest_le N j t (o, e, q) (o', e', q') = go (dec_le t j)
  where
    go : Dec (t ≤ j) → t ≤ j
    go (yes h) = h
    go (no h) =
        let x = 2 ^ (t - suc j) * o' in
        let p : 2 ^ t ≡ 2 ^ j * (2 * 2 ^ (t - suc j)) = ap (λ k. 2 ^ k) (omega arith) ∙ pow-add 2 j (suc (t - suc j)) ∙ rw (pow-succ' 2 (t - suc j)) in
        let f : N ≡ 2 ^ j * (2 * x) = e' ∙ rw p (omega arith) in
        let g : o ≡ 2 * x = sym (div-eq_of_eq-mul_right (pow_pos j) e) ∙ div-eq_of_eq-mul_right (pow_pos j) f in
        absurd (omega arith)

-- its bit is set
pub lowest_bit : (N t : ℕ) → Lowest N t → bit N t ≡ 1
lowest_bit N t (o, e, q) = ap (λ x. x % 2) (div-eq_of_eq-mul_right (pow_pos t) e) ∙ q

-- what remains at it
pub lowest_rest : (N t : ℕ) → Lowest N t → rest N (suc t) ≡ diff 0 (2 ^ t)
lowest_rest N t (o, e, q) =
    let b = lowest_bit N t (o, e, q) in
    let m : N % 2 ^ t ≡ 0 = ap (λ x. x % 2 ^ t) e ∙ mul-mod_right (2 ^ t) o in
    rest_suc N t ∙ rw (b, m) (omega ring)

-- what remains is half a step exactly: then a lowest bit is there, and it is negative
record Half (N j : ℕ) : Type 0 where
  lowest : Lowest N j
  negative : up (rest N (suc j)) ≡ 0

-- such a half
half : (N j : ℕ) → nat_abs (rest N (suc j)) ≡ 2 ^ j → Half N j
half N j h =
    let (b, m, n) = go (N % 2 ^ j) (2 ^ j) (bit N j) (mod-lt N (pow_pos j)) (omega arith) (ap nat_abs (sym (rest_suc N j)) ∙ h) in
    record { lowest = (N / 2 ^ j, sym (div-add-mod N (2 ^ j)) ∙ rw m (omega arith), b); negative = ap up (rest_suc N j) ∙ n }
  where
    go : (r P b : ℕ) → r < P → b < 2 → nat_abs (diff r (P * b)) ≡ P → (b ≡ 1) × (r ≡ 0) × (up (diff r (P * b)) ≡ 0)
    go r P zero l k e = absurd (omega (arith, diff_is r (P * 0), abs_is (diff r (P * 0))))
    go r P (suc zero) l k e = omega (arith, diff_is r (P * 1), abs_is (diff r (P * 1)))
    go r P (suc (suc b)) l k e = absurd (omega arith)

-- the sign of what remains at a window
sign_rise : (N i : ℕ) → bit N i ≡ 0 → dn (rest N (suc i)) ≡ 0
sign_rise N i e = ap dn (rest_suc N i) ∙ go (N % 2 ^ i) (2 ^ i) (bit N i) e
  where
    go : (r P b : ℕ) → b ≡ 0 → dn (diff r (P * b)) ≡ 0
    go r P b e = omega (arith, diff_is r (P * b), abs_is (diff r (P * b)), ap (λ x. P * x) e)

-- and at a 1
sign_fall : (N i : ℕ) → bit N i ≡ 1 → up (rest N (suc i)) ≡ 0
sign_fall N i e = ap up (rest_suc N i) ∙ go (N % 2 ^ i) (2 ^ i) (bit N i) (mod-lt N (pow_pos i)) e
  where
    go : (r P b : ℕ) → r < P → b ≡ 1 → up (diff r (P * b)) ≡ 0
    go r P b l e = omega (arith, diff_is r (P * b), abs_is (diff r (P * b)), ap (λ x. P * x) e)

-- ---- a step
record Chosen (tie : Tie) (w L : ℕ) (R : ℤ) (m : ℕ) (ds : List ℤ) : Type 0 where
  string : Takes tie w R ds
  size : length ds ≡ L
  clear : (p : ℕ) → m ≤ p → get_or ds p (pos 0) ≡ pos 0

-- c is closest for the c that leaves ρ
abbrev Leaves : Tie → ℕ → ℤ → ℤ → Type 0
Leaves tie w R ρ = (c : ℤ) → R ≡ c +ℤ ρ → IsClosest tie w R c

-- nothing to write
chosen_zeros : (tie : Tie) (w L : ℕ) (R : ℤ) → R ≡ pos 0 → (m : ℕ) → Chosen tie w L R m (replicate L (pos 0))
chosen_zeros tie w L R e m = record { string = done L e; size = length-replicate L (pos 0); clear = λ p h. zero_at L p }

-- the string of R from that of ρ
chosen_put : {tie : Tie} {w : ℕ} → 2 ≤ w → (L i : ℕ) (R v ρ : ℤ) {ds : List ℤ} → Step w i R v ρ → suc i ≤ L → Leaves tie w R ρ → Chosen tie w L ρ (suc i - w) ds
    → Chosen tie w L R (suc i) (set ds (spot w i v) (odd_part w v))
chosen_put {tie} {w} two L i R v ρ {ds} S h C U =
    let p = spot w i v in
    let u = odd_part w v in
    let A = step_at w two S in
    let s = subst (λ X. Takes tie w X ds) (sym (remains (2 ^ p) R u ρ A.is)) U.string in
    record {
      string = take {R = R} {ds = ds} p u (λ z. omega (arith, ap nat_abs z, S.big, pow_pos i)) (digit_in w (omega arith) u A.digit) (digit_some A.digit) (C (pos (2 ^ p) *ℤ u) A.is) (omega (arith, A.under, U.size)) s;
      size = length-set ds p u ∙ U.size;
      clear = λ q g. get_or-set_other ds p q u (pos 0) (omega (arith, A.under)) ∙ U.clear q (omega arith);
    }

-- a whole window is a rounding
step_round : {w i : ℕ} {R v ρ : ℤ} → w ≤ i → Step w i R v ρ → Round w (i - w) R v ρ
step_round {w} {i} {R} {v} {ρ} h S =
    let j = i - w in
    let p : 2 ^ suc i ≡ 2 ^ w * 2 ^ suc j = ap (λ t. 2 ^ t) (omega arith) ∙ pow-add 2 w (suc j) in
    let q : 2 ^ i ≡ 2 ^ (j + w) = ap (λ t. 2 ^ t) (omega arith) in
    record {
      is = cancel (2 ^ w) (pow_pos w) R (pos (2 ^ suc j) *ℤ v +ℤ ρ) (S.law ∙ law (2 ^ w) (2 ^ suc j) (2 ^ suc i) p);
      big = omega (arith, S.big);
      top = omega (arith, S.top);
      low = omega (arith, lt_of_mul-lt-mul_left (2 ^ w) {m = nat_abs ρ} {n = 2 ^ j + 1} (omega (arith, S.low, pow-add 2 j w, pow_pos w)));
    }
  where
    law : (W P q : ℕ) → q ≡ W * P → pos q *ℤ v +ℤ pos W *ℤ ρ ≡ pos W *ℤ (pos P *ℤ v +ℤ ρ)
    law W P q e = rw (e, parts v, parts ρ) (simp diffs (omega ring))

-- a whole window is a rounding, and a short one leaves nothing
step_leaves : {tie : Tie} {w i : ℕ} {R v ρ : ℤ} → 2 ≤ w → Step w i R v ρ → (w ≤ i → nat_abs ρ ≡ 2 ^ (i - w) → (c : ℤ) → R ≡ c +ℤ ρ → Tied tie R c ρ) → (i < w → ρ ≡ pos 0) → Leaves tie w R ρ
step_leaves {tie} {w} {i} {R} {v} {ρ} two S t z c e = go (dec_le w i)
  where
    go : Dec (w ≤ i) → IsClosest tie w R c
    go (yes h) =
        let r = step_round h S in
        let q = same_left (pos (2 ^ suc (i - w)) *ℤ v) c ρ (sym r.is ∙ e) in
        subst (λ x. IsClosest tie w R x) q (round_closest two r (λ n. t h n (pos (2 ^ suc (i - w)) *ℤ v) r.is))
    go (no h) =
        let q : R ≡ c = e ∙ rw (z (omega arith), parts c) (simp diffs (omega ring)) in
        let l : suc i ≤ w = omega arith in
        subst (λ x. IsClosest tie w R x) q
        (self_closest R (self_candidate w two R (omega (arith, S.big, pow_pos i)) (omega (arith, S.top, pow_mono l, pow-succ' 2 i))))

-- ---- which ties go which way: R - ρ is larger than R where the signs differ, and smaller where they agree
apart : (R c ρ : ℤ) → R ≡ c +ℤ ρ → (dn R ≡ 0) × (up ρ ≡ 0) → Tied larger R c ρ
unfolding Tied
apart R c ρ e h = omega (arith, abs_is R, abs_is ρ, abs_is c, add_is c ρ, ap up e, ap dn e)

-- the other way round
apart' : (R c ρ : ℤ) → R ≡ c +ℤ ρ → (up R ≡ 0) × (dn ρ ≡ 0) → Tied larger R c ρ
unfolding Tied
apart' R c ρ e h = omega (arith, abs_is R, abs_is ρ, abs_is c, add_is c ρ, ap up e, ap dn e)

-- both negative
alike : (R c ρ : ℤ) → R ≡ c +ℤ ρ → (up R ≡ 0) × (up ρ ≡ 0) × (nat_abs ρ ≤ nat_abs R) → Tied smaller R c ρ
unfolding Tied
alike R c ρ e h = omega (arith, abs_is R, abs_is ρ, abs_is c, add_is c ρ, ap up e, ap dn e)

-- both positive
alike' : (R c ρ : ℤ) → R ≡ c +ℤ ρ → (dn R ≡ 0) × (dn ρ ≡ 0) × (nat_abs ρ ≤ nat_abs R) → Tied smaller R c ρ
unfolding Tied
alike' R c ρ e h = omega (arith, abs_is R, abs_is ρ, abs_is c, add_is c ρ, ap up e, ap dn e)

-- what remains is no larger
step_less : {w i : ℕ} {R v ρ : ℤ} → 2 ≤ w → Step w i R v ρ → nat_abs ρ ≤ nat_abs R
step_less {w} {i} {R} {v} {ρ} two S =
    let f : 4 ≤ 2 ^ w = omega (arith, pow_mono two) in
    omega (arith, S.low, S.big, mul-le-mul_right (nat_abs ρ) f)

-- wMOF's rounding, where the tie rule agrees
tied_plain : (tie : Tie) (N i : ℕ) → Differ (bit N i) (below N i) → bit N i ≢ turn tie → (c ρ : ℤ) → rest N (suc i) ≡ c +ℤ ρ → up ρ ≡ 0 → nat_abs ρ ≤ nat_abs (rest N (suc i))
    → Tied tie (rest N (suc i)) c ρ
tied_plain larger N i (rise b q) n c ρ e z l = apart (rest N (suc i)) c ρ e (sign_rise N i b, z)
tied_plain larger N i (fall b q) n c ρ e z l = absurd (n b)
tied_plain smaller N i (rise b q) n c ρ e z l = absurd (n b)
tied_plain smaller N i (fall b q) n c ρ e z l = alike (rest N (suc i)) c ρ e (sign_fall N i b, z, l)

-- one less, where it does not
tied_less : (tie : Tie) (N i : ℕ) → bit N i ≡ turn tie → (c ρ : ℤ) → rest N (suc i) ≡ c +ℤ ρ → dn ρ ≡ 0 → nat_abs ρ ≤ nat_abs (rest N (suc i)) → Tied tie (rest N (suc i)) c ρ
tied_less larger N i b c ρ e z l = apart' (rest N (suc i)) c ρ e (sign_fall N i b, z)
tied_less smaller N i b c ρ e z l = alike' (rest N (suc i)) c ρ e (sign_rise N i b, z, l)

-- ---- the string
pub opens_some : (N i : ℕ) → Differ (bit N i) (below N i) → 0 < N
opens_some zero i d = absurd (omega (arith, rest_big 0 i d, ap nat_abs (rest_all 0 i (pow_pos i)), pow_pos i))
opens_some (suc N) i d = omega arith

-- the last 1
last_one : (tie : Tie) (w L t : ℕ) → 2 ≤ w → t < L → Chosen tie w L (pos (2 ^ t)) (suc t) (set (replicate L (pos 0)) t (pos 1))
last_one tie w L t two h =
    let zs = replicate L (pos 0) in
    let e : pos (2 ^ t) ≡ pos (2 ^ t) *ℤ pos 1 = ap pos (omega arith) in
    let one : Digit w (pos 1) = record { half = pos 0; odd = refl; small = omega (arith, pow_mono two) } in
    let C = candidate w (omega arith) t (pos 1) one e in
    record {
      string = take {R = pos (2 ^ t)} {ds = zs} t (pos 1) (λ z. omega (arith, ap nat_abs z, pow_pos t)) (digit_in w (omega arith) (pos 1) one) (digit_some one) (subst (λ x. IsClosest tie w (pos (2 ^ t)) x) e (self_closest (pos (2 ^ t)) C))
          (omega (arith, length-replicate L (pos 0))) (done {R = pos (2 ^ t) -ℤ pos (2 ^ t) *ℤ pos 1} L (simp diffs (omega ring)));
      size = length-set zs t (pos 1) ∙ length-replicate L (pos 0);
      clear = λ p g. get_or-set_other zs t p (pos 1) (pos 0) (omega arith) ∙ zero_at L p;
    }

-- one less than wMOF's window leaves + 2 ^ t for - 2 ^ t
pub turn_step : (w i t : ℕ) (R v ρ : ℤ) → i ≡ w + t → Step w i R v ρ → ρ ≡ diff 0 (2 ^ t) → Step w i R (v -ℤ pos 1) (pos (2 ^ t))
turn_step w i t R v ρ e S z =
    let q : 2 ^ i ≡ 2 ^ w * 2 ^ t = ap (λ x. 2 ^ x) e ∙ pow-add 2 w t in
    record {
      law = S.law ∙ law (2 ^ suc i) (2 ^ w) (2 ^ t) (omega (arith, pow-succ' 2 i)) z;
      big = S.big;
      top = S.top;
      low = omega arith;
    }
  where
    law : (P W Q : ℕ) → P ≡ 2 * (W * Q) → ρ ≡ diff 0 Q → pos P *ℤ v +ℤ pos W *ℤ ρ ≡ pos P *ℤ (v -ℤ pos 1) +ℤ pos W *ℤ pos Q
    law P W Q h k = rw (h, k, parts v) (simp diffs (omega ring))

module _ (tie : Tie) (w N L t : ℕ) (two : 2 ≤ w) (low : 0 < N → Lowest N t) where
  -- a window as wMOF's
  plain : (i : ℕ) → Differ (bit N i) (below N i) → (i ≡ w + t → bit N i ≢ turn tie) → suc i ≤ L → {ds : List ℤ} → Chosen tie w L (rest N (suc i - w)) (suc i - w) ds
      → Chosen tie w L (rest N (suc i)) (suc i) (set ds (spot w i (window_at w N i)) (odd_part w (window_at w N i)))
  plain i d n l U = chosen_put two L i R v ρ S l (step_leaves two S ties none) U
    where
      R : ℤ
      R = rest N (suc i)

      v : ℤ
      v = window_at w N i

      ρ : ℤ
      ρ = rest N (suc i - w)

      S : Step w i R v ρ
      S = window_step w N i d

      none : i < w → ρ ≡ pos 0
      none h = ap (rest N) (omega arith) ∙ rest_zero N

      ties : w ≤ i → nat_abs ρ ≡ 2 ^ (i - w) → (c : ℤ) → R ≡ c +ℤ ρ → Tied tie R c ρ
      ties h e c q =
          let z : suc i - w ≡ suc (i - w) = omega arith in
          let H = half N (i - w) (ap (λ x. nat_abs (rest N x)) (sym z) ∙ e) in
          let T = low (opens_some N i d) in
          let a = lowest_le N (i - w) t H.lowest T in
          let b = lowest_le N t (i - w) T H.lowest in
          tied_plain tie N i d (n (omega arith)) c ρ q (ap (λ x. up (rest N x)) z ∙ H.negative) (step_less two S)

  -- a tie that is rounded down
  turned : (i : ℕ) → Differ (bit N i) (below N i) → i ≡ w + t → bit N i ≡ turn tie → suc i ≤ L
      → Chosen tie w L (rest N (suc i)) (suc i) (set (set (replicate L (pos 0)) t (pos 1)) (spot w i (window_at w N i -ℤ pos 1)) (odd_part w (window_at w N i -ℤ pos 1)))
  unfolding dn
  turned i d e b l =
      let z : suc i - w ≡ suc t = omega arith in
      let R = rest N (suc i) in
      let v = window_at w N i in
      let S = turn_step w i t R v (rest N (suc i - w)) e (window_step w N i d) (ap (rest N) z ∙ lowest_rest N t (low (opens_some N i d))) in
      let C = step_leaves two S (λ h g c q. tied_less tie N i b c (pos (2 ^ t)) q refl (step_less two S)) (λ h. absurd (omega arith)) in
      chosen_put two L i R (v -ℤ pos 1) (pos (2 ^ t)) S l C (subst (λ m. Chosen tie w L (pos (2 ^ t)) m (set (replicate L (pos 0)) t (pos 1))) (sym z) (last_one tie w L t two (omega arith)))

  -- the digits under m are the closest string of R_(m - 1)
  closest_under_is : (f m : ℕ) → m ≤ f → m ≤ L → Chosen tie w L (rest N m) m (closest_under (turn tie) w N L t f m)
  unfolding closest_under
  closest_under_is zero m h l = chosen_zeros tie w L (rest N m) (ap (rest N) (omega arith) ∙ rest_zero N) m
  closest_under_is (suc f) zero h l = chosen_zeros tie w L (rest N 0) (rest_zero N) 0
  closest_under_is (suc f) (suc i) h l =
      either (λ ds. Chosen tie w L (rest N (suc i)) (suc i) ds) (eqb (bit N i) (below N i))
      (λ s.
      let U = closest_under_is f i (omega arith) (omega arith) in
      record { string = rw (rest_same N i (eqb→eq (bit N i) (below N i) s)) U.string; size = U.size; clear = λ p k. U.clear p (omega arith) })
      (λ s.
      let d = differ (bit N i) (below N i) (omega arith) (omega arith) (unequal (bit N i) (below N i) s) in
      let U = closest_under_is f (suc i - w) (omega arith) (omega arith) in
      either (λ ds. Chosen tie w L (rest N (suc i)) (suc i) ds) (eqb i (w + t) && eqb (bit N i) (turn tie))
      (λ a. let (p, q) = and_both (eqb i (w + t)) (eqb (bit N i) (turn tie)) a in turned i d (eqb→eq i (w + t) p) (eqb→eq (bit N i) (turn tie) q) l)
      (λ a. plain i d (λ e. unequal (bit N i) (turn tie) (not_and (eqb i (w + t)) (eqb (bit N i) (turn tie)) a (equal i (w + t) e))) l U))

module _ (tie : Tie) (w N n : ℕ) (two : 2 ≤ w) (small : N < 2 ^ n) where
  -- the lowest bit of N
  pub lowest_of : 0 < N → Lowest N (count_trailing_zeros n N)
  lowest_of h = let (o, e, q, s) = trailing n N h small in (o, e, q)

  -- the whole
  chosen : Chosen tie w (n + 1) (rest N (n + 1)) (n + 1) (closest_of tie w N n)
  unfolding closest_of
  chosen = closest_under_is tie w N (n + 1) (count_trailing_zeros n N) two lowest_of (n + 1) (n + 1) (omega arith) (omega arith)

  -- the closest form of N, on n + 1 places
  pub closest_is : Closest tie w N n (closest_of tie w N n)
  closest_is = record { length_is = chosen.size; taken = rw (add-one n, rest_all N n small) at chosen.string }

  -- and the only one
  pub closest_only : {ds : List ℤ} → Closest tie w N n ds → ds ≡ closest_of tie w N n
  closest_only c = takes_same two c.taken closest_is.taken refl (c.length_is ∙ sym closest_is.length_is)
