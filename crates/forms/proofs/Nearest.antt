-- The candidates of the closest form: one closest to R only, where it lies (lemma 1 of the paper: at most half of its lowest place remains), and that what
-- remains has a lower nonadjacent weight. Both tie rules at once. Assumes nothing.
use mathlib.Core.Path.{◌≡◌, refl, sym, ap, ◌∙◌}
use mathlib.Core.Logic.{◌≢◌}
use Prim.Native.Nat.{ℕ, zero, suc, ◌+◌, ◌*◌, ◌-◌, ◌^◌, ◌<◌, ◌≤◌}
use native.Mathlib.Omega.{arith}
use native.Mathlib.Decide.{dec_le}
use native.Mathlib.Nat.{pow-succ', mul-le-mul_left, mul-le-mul_right, suc-add, zero-add}
use lib.Pow.{pow_pos, pow_mono, pow-add}
use lib.IntN.{ℤ, ℤ_discrete, pos, negsuc, nat_abs, ◌+ℤ◌, ◌-ℤ◌, ◌*ℤ◌}
use Rattle.laws.proofs.Integers.{up, dn, mul_is, parts, diffs, ring, abs, abs_max, abs_mul, abs_block, abs_is, sub_is, abs_zero, abs_pos, sub_zero_same}
use Rattle.laws.proofs.Division.{Near, near}
use Rattle.laws.proofs.Powers.{pow_times, under_power}
use Rattle.meaning.specs.Windows.{twos, odd_part}
use Rattle.meaning.specs.Closest.{Tie, larger, smaller, Candidate, Favours, IsClosest}
use Rattle.forms.proofs.Naf.{Digit}
use Rattle.forms.proofs.DigitSets.{digit_of, digit_in, digit_some}
use Rattle.forms.proofs.Block.{unit_block}
use Rattle.forms.proofs.Built.{Drop, drop_all}
use Rattle.forms.proofs.Wmof.{Step, step_some, step_fits, step_drop}

-- ---- candidates by odd digits
pub odd_digit : (w : ℕ) → 1 ≤ w → {c : ℤ} (C : Candidate w c) → Digit w C.unit
odd_digit w one C = digit_of w one C.unit C.digit C.some

pub candidate : (w : ℕ) → 1 ≤ w → (p : ℕ) (u : ℤ) → Digit w u → {c : ℤ} → c ≡ pos (2 ^ p) *ℤ u → Candidate w c
candidate w one p u D e = record { place = p; unit = u; digit = digit_in w one u D; some = digit_some D; is = e }

-- the three sides
pub sides : (R c : ℤ) → (nat_abs c ≤ nat_abs R + nat_abs (R -ℤ c)) × (nat_abs R ≤ nat_abs c + nat_abs (R -ℤ c))
sides R c = (abs_max c (omega (arith, sub_is R c, abs R, abs (R -ℤ c))), abs_max R (omega (arith, sub_is R c, abs c, abs (R -ℤ c))))

-- ---- one only
same_size : (R c c' : ℤ) → 0 < nat_abs R → nat_abs c ≡ nat_abs c' → nat_abs (R -ℤ c) ≡ nat_abs (R -ℤ c') → c ≡ c'
unfolding up dn
same_size R (pos a) (pos b) h s d = ap pos s
same_size R (negsuc a) (negsuc b) h s d = ap negsuc (omega arith)
same_size R (pos a) (negsuc b) h s d =
    absurd (omega (arith, abs_is R, abs_is (R -ℤ pos a), abs_is (R -ℤ negsuc b), sub_is R (pos a), sub_is R (negsuc b)))
same_size R (negsuc a) (pos b) h s d =
    absurd (omega (arith, abs_is R, abs_is (R -ℤ negsuc a), abs_is (R -ℤ pos b), sub_is R (negsuc a), sub_is R (pos b)))

-- each favoured over the other: of one size
favour : (tie : Tie) (c c' : ℤ) → Favours tie c c' → Favours tie c' c → nat_abs c ≡ nat_abs c'
unfolding Favours
favour larger c c' f g = omega arith
favour smaller c c' f g = omega arith

-- R has one closest candidate
pub closest_unique : {tie : Tie} {w : ℕ} {R c c' : ℤ} → R ≢ pos 0 → IsClosest tie w R c → IsClosest tie w R c' → c ≡ c'
closest_unique {tie} {R = R} {c = c} {c' = c'} n C C' =
    let e : nat_abs (R -ℤ c) ≡ nat_abs (R -ℤ c') = omega (arith, C.nearest c' C'.candidate, C'.nearest c C.candidate) in
    same_size R c c' (abs_pos R n) (favour tie c c' (C.favoured c' C'.candidate e) (C'.favoured c C.candidate (sym e))) e

-- ---- where the candidates are
-- T = 2 ^ (j + w), T ≤ 2 · |R| ≤ 2 · T: a candidate is a multiple of 2 ^ (j + 1), or shorter than T / 2
data Kind (w j : ℕ) (c : ℤ) : Type 0 where
  multiple : (v : ℤ) → c ≡ pos (2 ^ suc j) *ℤ v → Kind w j c
  short : 2 * nat_abs c < 2 ^ (j + w) → Kind w j c

-- by the place of its digit
kind : (w j : ℕ) → 1 ≤ w → (c : ℤ) → Candidate w c → Kind w j c
kind w j one c C = go (dec_le (suc j) C.place)
  where
    p : ℕ
    p = C.place

    u : ℤ
    u = C.unit

    go : Dec (suc j ≤ C.place) → Kind w j c
    go (yes h) =
        multiple (pos (2 ^ (p - suc j)) *ℤ u)
        (C.is ∙ ap (λ t. pos (2 ^ t) *ℤ u) (omega arith) ∙ pow_times (suc j) (p - suc j) u)
    go (no h) =
        let l : p ≤ j = omega arith in
        short (omega (
          arith,
          ap nat_abs C.is ∙ abs_mul (2 ^ p) u,
          mul-le-mul_right (2 * nat_abs u) (pow_mono l),
          mul-le-mul_left (2 ^ j) (odd_digit w one C).small,
          pow_pos j,
          pow-add 2 j w,
        ))

-- the signed power of two that R reaches is a candidate, and nearer than what is shorter
unfoldable pub sgn : ℤ → ℤ
sgn (pos a) = pos 1
sgn (negsuc a) = negsuc 0

-- a sign is a digit
pub sgn_digit : (w : ℕ) → 2 ≤ w → (R : ℤ) → Digit w (sgn R)
unfolding sgn
sgn_digit w two (pos a) = record { half = pos 0; odd = refl; small = omega (arith, pow_mono two) }
sgn_digit w two (negsuc a) = record { half = negsuc 0; odd = refl; small = omega (arith, pow_mono two) }

-- a number of the sign of R and not larger
pub sgn_near : (R : ℤ) (E : ℕ) → E ≤ nat_abs R → nat_abs (R -ℤ pos E *ℤ sgn R) + E ≤ nat_abs R
unfolding sgn up dn
sgn_near (pos a) E h =
    let c = pos E *ℤ pos 1 in
    omega (arith, abs_max (pos a -ℤ c) {B = a - E} (omega (arith, sub_is (pos a) c, mul_is (pos E) (pos 1))))
sgn_near (negsuc a) E h =
    let c = pos E *ℤ negsuc 0 in
    omega (arith, abs_max (negsuc a -ℤ c) {B = suc a - E} (omega (arith, sub_is (negsuc a) c, mul_is (pos E) (negsuc 0))))

-- the distance of R and a number of its sign
pub sgn_far : (R : ℤ) (c : ℕ) → (nat_abs (R -ℤ pos c *ℤ sgn R) ≡ nat_abs R - c + (c - nat_abs R)) × (nat_abs (pos c *ℤ sgn R) ≡ c)
unfolding sgn up dn
sgn_far (pos a) c = let y = pos c *ℤ pos 1 in omega (arith, abs_is (pos a -ℤ y), sub_is (pos a) y, mul_is (pos c) (pos 1))
sgn_far (negsuc a) c = let y = pos c *ℤ negsuc 0 in omega (arith, abs_is (negsuc a -ℤ y), abs_is y, sub_is (negsuc a) y, mul_is (pos c) (negsuc 0))

-- a nearer candidate, a multiple of 2 ^ (j + 1), than one that is short
record Nearer (w j : ℕ) (R c : ℤ) : Type 0 where
  other : ℤ
  fits : Candidate w (pos (2 ^ suc j) *ℤ other)
  nearer : nat_abs (R -ℤ pos (2 ^ suc j) *ℤ other) < nat_abs (R -ℤ c)

-- the power of two at which R starts
nearer : (w j : ℕ) → 2 ≤ w → (R c : ℤ) → 2 ^ (j + w) ≤ 2 * nat_abs R → 2 * nat_abs c < 2 ^ (j + w) → Nearer w j R c
nearer w j two R c big l =
    let o = pos (2 ^ (w - 2)) *ℤ sgn R in
    let E = 2 ^ (suc j + (w - 2)) in
    let t : 2 ^ (j + w) ≡ 2 * E = ap (λ t. 2 ^ t) (omega arith) ∙ pow-succ' 2 (suc j + (w - 2)) in
    let e : pos (2 ^ suc j) *ℤ o ≡ pos E *ℤ sgn R = sym (pow_times (suc j) (w - 2) (sgn R)) in
    record {
      other = o;
      fits = candidate w (omega arith) (suc j + (w - 2)) (sgn R) (sgn_digit w two R) e;
      nearer = rw e (omega (arith, sgn_near R E (omega arith), (sides R c).1));
    }

-- another multiple is at least a step less ρ away
multiples : (P : ℕ) (R v ρ v' : ℤ) → R ≡ pos P *ℤ v +ℤ ρ → v ≢ v' → P ≤ nat_abs (R -ℤ pos P *ℤ v') + nat_abs ρ
multiples P R v ρ v' e n =
    let b : R -ℤ pos P *ℤ v' ≡ pos P *ℤ (v -ℤ v') +ℤ ρ = rw (e, parts v, parts v', parts ρ) (simp diffs (omega ring)) in
    let h = abs_pos (v -ℤ v') (λ z. n (sub_zero_same v v' z)) in
    omega (arith, (abs_block P (R -ℤ pos P *ℤ v') (v -ℤ v') ρ b).1, mul-le-mul_left P h)

-- ---- rounding: R to the multiple v · 2 ^ (j + 1), and ρ remains
pub record Round (w j : ℕ) (R v ρ : ℤ) : Type 0 where
  pub is : R ≡ pos (2 ^ suc j) *ℤ v +ℤ ρ
  pub big : 2 ^ (j + w) ≤ 2 * nat_abs R
  pub top : nat_abs R ≤ 2 ^ (j + w)
  pub low : nat_abs ρ ≤ 2 ^ j

-- a rounding is a step at place j + w
round_step : {w j : ℕ} {R v ρ : ℤ} → Round w j R v ρ → Step w (j + w) R v ρ
round_step {w} {j} {R} {v} {ρ} r =
    record {
      law = law (2 ^ suc j) (2 ^ w) (2 ^ (suc (j + w))) (ap (λ t. 2 ^ t) (omega arith) ∙ pow-add 2 (suc j) w) r.is;
      big = r.big;
      top = r.top;
      low = omega (arith, mul-le-mul_left (2 ^ w) r.low, pow-add 2 j w);
    }
  where
    law : (P W q : ℕ) → q ≡ P * W → R ≡ pos P *ℤ v +ℤ ρ → pos W *ℤ R ≡ pos q *ℤ v +ℤ pos W *ℤ ρ
    law P W q h e = rw (e, h, parts v, parts ρ) (simp diffs (omega ring))

-- a short enough multiple is a candidate
block_candidate : (w g : ℕ) → 2 ≤ w → (v : ℤ) → 0 < nat_abs v → 2 * nat_abs v ≤ 2 ^ w → Candidate w (pos (2 ^ g) *ℤ v)
block_candidate w g two v h l =
    let B = unit_block w two v h l in
    candidate w (omega arith) (g + twos w v) (odd_part w v) B.digit (ap (λ z. pos (2 ^ g) *ℤ z) B.is ∙ sym (pow_times g (twos w v) (odd_part w v)))

-- what remains is ρ
pub remains : (P : ℕ) (R v ρ : ℤ) → R ≡ pos P *ℤ v +ℤ ρ → R -ℤ pos P *ℤ v ≡ ρ
remains P R v ρ e = rw (e, parts v, parts ρ) (simp diffs (omega ring))

-- what a tie has to be
unfoldable pub Tied : Tie → ℤ → ℤ → ℤ → Type 0
Tied larger R c ρ = nat_abs R + nat_abs ρ ≤ nat_abs c
Tied smaller R c ρ = nat_abs c + nat_abs ρ ≤ nat_abs R

-- then the rule takes c: |c'| is between | |R| - |ρ| | and |R| + |ρ|
tied : (tie : Tie) (R c ρ c' : ℤ) → Tied tie R c ρ → nat_abs ρ ≡ nat_abs (R -ℤ c') → Favours tie c c'
unfolding Tied Favours
tied larger R c ρ c' t e = omega (arith, sides R c')
tied smaller R c ρ c' t e = omega (arith, sides R c')

-- c over itself
favour_refl : (tie : Tie) (c c' : ℤ) → c ≡ c' → Favours tie c c'
unfolding Favours
favour_refl larger c c' e = omega (arith, ap nat_abs e)
favour_refl smaller c c' e = omega (arith, ap nat_abs e)

-- the rounding is closest
pub round_closest : {tie : Tie} {w j : ℕ} {R v ρ : ℤ} → 2 ≤ w → Round w j R v ρ → (nat_abs ρ ≡ 2 ^ j → Tied tie R (pos (2 ^ suc j) *ℤ v) ρ) → IsClosest tie w R (pos (2 ^ suc j) *ℤ v)
round_closest {tie} {w} {j} {R} {v} {ρ} two r t =
    record {
      candidate = block_candidate w (suc j) two v (step_some w two (round_step r)) (step_fits w two (round_step r));
      nearest = λ c' C. nearest c' (kind w j (omega arith) c' C);
      favoured = λ c' C e. favoured c' (kind w j (omega arith) c' C) e;
    }
  where
    rem : nat_abs (R -ℤ pos (2 ^ suc j) *ℤ v) ≡ nat_abs ρ
    rem = ap nat_abs (remains (2 ^ suc j) R v ρ r.is)

    half : 2 ^ suc j ≡ 2 * 2 ^ j
    half = pow-succ' 2 j

    same : (v' : ℤ) → v ≡ v' → nat_abs (R -ℤ pos (2 ^ suc j) *ℤ v') ≡ nat_abs ρ
    same v' e = ap (λ z. nat_abs (R -ℤ pos (2 ^ suc j) *ℤ z)) (sym e) ∙ rem

    -- a multiple is no nearer
    no_nearer : (v' : ℤ) → Dec (v ≡ v') → nat_abs ρ ≤ nat_abs (R -ℤ pos (2 ^ suc j) *ℤ v')
    no_nearer v' (yes e) = omega (arith, same v' e)
    no_nearer v' (no n) = omega (arith, multiples (2 ^ suc j) R v ρ v' r.is n, half, r.low)

    nearest : (c' : ℤ) → Kind w j c' → nat_abs (R -ℤ pos (2 ^ suc j) *ℤ v) ≤ nat_abs (R -ℤ c')
    nearest c' (multiple v' e) = omega (arith, rem, no_nearer v' (ℤ_discrete v v'), ap (λ z. nat_abs (R -ℤ z)) e)
    nearest c' (short l) =
        let n = nearer w j two R c' r.big l in
        omega (arith, rem, no_nearer n.other (ℤ_discrete v n.other), n.nearer)

    favoured : (c' : ℤ) → Kind w j c' → nat_abs (R -ℤ pos (2 ^ suc j) *ℤ v) ≡ nat_abs (R -ℤ c') → Favours tie (pos (2 ^ suc j) *ℤ v) c'
    favoured c' (multiple v' e) q = go (ℤ_discrete v v')
      where
        go : Dec (v ≡ v') → Favours tie (pos (2 ^ suc j) *ℤ v) c'
        go (yes f) = favour_refl tie (pos (2 ^ suc j) *ℤ v) c' (ap (λ z. pos (2 ^ suc j) *ℤ z) f ∙ sym e)
        go (no n) =
            tied tie R (pos (2 ^ suc j) *ℤ v) ρ c'
            (t (omega (arith, multiples (2 ^ suc j) R v ρ v' r.is n, half, rem, r.low, ap (λ z. nat_abs (R -ℤ z)) e)))
            (sym rem ∙ q)
    favoured c' (short l) q =
        let n = nearer w j two R c' r.big l in
        absurd (omega (arith, rem, no_nearer n.other (ℤ_discrete v n.other), n.nearer))

-- a small R is a candidate, and a candidate is closest to itself
pub self_candidate : (w : ℕ) → 2 ≤ w → (R : ℤ) → 0 < nat_abs R → 2 * nat_abs R ≤ 2 ^ w → Candidate w R
self_candidate w two R h l = let B = unit_block w two R h l in candidate w (omega arith) (twos w R) (odd_part w R) B.digit B.is

-- no distance
pub self_zero : (z : ℤ) → nat_abs (z -ℤ z) ≡ 0
self_zero z = omega (arith, abs_is (z -ℤ z), sub_is z z)

-- a candidate is closest to itself
pub self_closest : {tie : Tie} {w : ℕ} (R : ℤ) → Candidate w R → IsClosest tie w R R
self_closest {tie} R C =
    record {
      candidate = C;
      nearest = λ c' C'. omega (arith, self_zero R);
      favoured = λ c' C' e. favour_refl tie R c' (sub_zero_same R c' (abs_zero (R -ℤ c') (omega (arith, self_zero R))));
    }

-- ---- what any closest candidate is
abbrev pub Nearest : ℕ → ℤ → ℤ → Type 0
Nearest w R c = (c' : ℤ) → Candidate w c' → nat_abs (R -ℤ c) ≤ nat_abs (R -ℤ c')

-- lemma 1 of document 002: a rounding, to a multiple that is c
pub nearest_round : (w j : ℕ) → 2 ≤ w → (R c : ℤ) → 2 ^ (j + w) ≤ 2 * nat_abs R → nat_abs R ≤ 2 ^ (j + w) → Candidate w c → Nearest w R c
    → (v : ℤ) × (c ≡ pos (2 ^ suc j) *ℤ v) × Round w j R v (R -ℤ c)
nearest_round w j two R c big top C N = go (kind w j (omega arith) c C)
  where
    low : Near R (2 ^ suc j) → nat_abs (R -ℤ c) ≤ 2 ^ j
    low n =
        let s : nat_abs n.rem ≤ 2 ^ j = omega (arith, n.small, pow-succ' 2 j) in
        let r : Round w j R n.quo n.rem = record { is = n.is; big = big; top = top; low = s } in
        let D = block_candidate w (suc j) two n.quo (step_some w two (round_step r)) (step_fits w two (round_step r)) in
        omega (arith, N (pos (2 ^ suc j) *ℤ n.quo) D, ap nat_abs (remains (2 ^ suc j) R n.quo n.rem n.is))

    go : Kind w j c → (v : ℤ) × (c ≡ pos (2 ^ suc j) *ℤ v) × Round w j R v (R -ℤ c)
    go (multiple v e) =
        (v, e, record { is = rw (e, parts R, parts v) (simp diffs (omega ring)); big = big; top = top; low = low (near R (2 ^ suc j) (pow_pos (suc j))) })
    go (short l) =
        let n = nearer w j two R c big l in
        absurd (omega (arith, N (pos (2 ^ suc j) *ℤ n.other) n.fits, n.nearer))

-- the j of R
abbrev Scale : ℕ → ℕ → Type 0
Scale w A = (j : ℕ) × (2 ^ (j + w) ≤ A) × (A ≤ 2 * 2 ^ (j + w))

-- looked for from above
scale_below : (w A : ℕ) → 2 ^ w ≤ A → (n : ℕ) → A ≤ 2 ^ (n + w) → Scale w A
scale_below w A h zero l = (0, rw (zero-add w) h, omega arith)
scale_below w A h (suc n) l = pick (dec_le (2 ^ (n + w)) A) (λ k. scale_below w A h n k)
  where
    pick : Dec (2 ^ (n + w) ≤ A) → (A ≤ 2 ^ (n + w) → Scale w A) → Scale w A
    pick (yes k) f = (n, k, omega (arith, ap (λ t. 2 ^ t) (suc-add n w), pow-succ' 2 (n + w)))
    pick (no k) f = f (omega arith)

-- 2 ^ (j + w) ≤ A ≤ 2 ^ (j + w + 1)
pub scale : (w A : ℕ) → 2 ^ w ≤ A → Scale w A
scale w A h = scale_below w A h A (omega (arith, under_power A, pow_mono {i = A} {j = A + w} (omega arith)))

-- what remains has a lower weight
pub nearest_drop : (w : ℕ) → 2 ≤ w → (R c : ℤ) → 0 < nat_abs R → Candidate w c → Nearest w R c → Drop w R (R -ℤ c)
nearest_drop w two R c h C N = go (dec_le (2 * nat_abs R) (2 ^ w))
  where
    go : Dec (2 * nat_abs R ≤ 2 ^ w) → Drop w R (R -ℤ c)
    go (yes l) =
        let z = abs_zero (R -ℤ c) (omega (arith, self_zero R, N R (self_candidate w two R h l))) in
        rw z (drop_all w two R h)
    go (no l) =
        let (j, big, top) = scale w (2 * nat_abs R) (omega arith) in
        step_drop w two (round_step (nearest_round w j two R c big (omega arith) C N).2)
