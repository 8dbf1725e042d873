-- Low bits of two numbers, places that hold zeros, and the places of a stretch where a window opens: which the stretch tells of. Assumes nothing.
use mathlib.Core.Path.{◌≡◌, sym, ap, ◌∙◌}
use mathlib.Core.Logic.{◌≢◌}
use mathlib.Core.List.{List}
use Prim.Native.Nat.{ℕ, zero, suc, ◌+◌, ◌*◌, ◌-◌, ◌/◌, ◌%◌, ◌^◌, ◌<◌, ◌≤◌}
use native.Mathlib.Omega.{arith}
use native.Mathlib.Decide.{dec_le, dec_lt}
use native.Mathlib.Nat.{mod-lt, mod-one, zero-mod, zero-mul, one-mul, suc-mul, zero-div, mul-mod_left, pow-succ'}
use lib.Bits.{bit_xor, xor_shr, xor_mod, xor_self, xor_add_and, and_le_l, and_le_r}
use lib.Count.{count_leading_zeros, leading_top}
use lib.IntN.{ℤ, pos}
use lib.ListN.{get_or, set}
use lib.Pow.{pow_pos, pow_mono, pow-add, low, field, mod-mod-pow, mod-pow-add, shl-shr, shr-shr, shr_lt, shr_mono}
use lib.Seq.{get_or-set_other}
use Rattle.meaning.specs.Scalars.{bit, below}
use Rattle.meaning.specs.Windows.{window_bits}
use Rattle.windows.proofs.Opened.{opened_leading, opened_second}
use Rattle.places.specs.Openings.{Clear, Highest, openings}

-- ---- low bits in which two numbers agree
pub same_low : (x R M k : ℕ) → k ≤ M → x % 2 ^ M ≡ R % 2 ^ M → x % 2 ^ k ≡ R % 2 ^ k
same_low x R M k h e =
    let m : M - k + k ≡ M = omega arith in
    sym (mod-mod-pow x (M - k) k) ∙ ap (λ t. x % 2 ^ t % 2 ^ k) m ∙ ap (λ t. t % 2 ^ k) e ∙ ap (λ t. R % 2 ^ t % 2 ^ k) (sym m) ∙ mod-mod-pow R (M - k) k

pub same_high : (x R m k : ℕ) → x % 2 ^ (m + k) ≡ R % 2 ^ (m + k) → x / 2 ^ k % 2 ^ m ≡ R / 2 ^ k % 2 ^ m
same_high x R m k e = sym (field x m k) ∙ ap (λ t. t / 2 ^ k) e ∙ field R m k

-- ---- the places that are left hold zeros
-- and so do those under a digit that is put
pub clear_put : (d : List ℤ) (p : ℕ) (u : ℤ) (m m' : ℕ) {d' : List ℤ} → Clear m d → m' ≤ p → m' ≤ m → d' ≡ set d p u → Clear m' d'
clear_put d p u m m' c h l e j k = ap (λ x. get_or x j (pos 0)) e ∙ get_or-set_other d p j u (pos 0) (λ q. omega arith) ∙ c j (omega arith)

-- ---- the highest set bit of a number that has more than `tail` bits
pub highest_is : (tail opens z : ℕ) → opens < 2 ^ 64 → 2 ^ tail ≤ opens → z ≡ count_leading_zeros 64 opens → (z ≤ 63) × (tail ≤ 63 - z) × Highest tail opens (63 - z - tail)
highest_is tail opens z fits some e =
    let (j, l, lo, hi) = leading_top 64 opens (omega (arith, pow_pos tail)) fits in
    let enough : tail ≤ j = go j hi (dec_le tail j) in
    let k : 63 - z - tail + tail ≡ j = omega arith in
    let k' : 63 - z - tail + 1 + tail ≡ suc j = omega arith in
    (omega arith, omega arith, record { set = rw k lo; over = rw k' hi; few = omega arith })
  where
    go : (j : ℕ) → opens < 2 ^ suc j → Dec (tail ≤ j) → tail ≤ j
    go j hi (yes h) = h
    go j hi (no h) = absurd (omega (arith, pow_mono {i = suc j} {j = tail} (omega arith)))

-- taken off where nothing stands over it, it leaves what lies under it
pub highest_off : (opens r : ℕ) → Highest 0 opens r → (2 ^ r ≤ opens) × (opens - 2 ^ r ≡ opens % 2 ^ r)
highest_off opens r top =
    let e : r + 0 ≡ r = omega arith in
    let f : r + 1 + 0 ≡ suc r = omega arith in
    let set : 2 ^ r ≤ opens = rw e at top.set in
    let few : opens < 2 ^ suc r = rw f at top.over in
    let rest : opens - 2 ^ r < 2 ^ r = omega (arith, pow-succ' 2 r) in
    (set, sym (low 1 r rest) ∙ ap (λ t. t % 2 ^ r) (omega arith))

-- ---- bits
-- a bit of the low u bits
low_bit : (X u q : ℕ) → q < u → X % 2 ^ u / 2 ^ q % 2 ≡ X / 2 ^ q % 2
low_bit X u q h =
    let e : u ≡ u - q + q = omega arith in
    let f : u - q ≡ u - q - 1 + 1 = omega arith in
    ap (λ t. X % 2 ^ t / 2 ^ q % 2) e ∙ ap (λ t. t % 2) (field X (u - q) q) ∙ ap (λ t. X / 2 ^ q % 2 ^ t % 2) f ∙ mod-mod-pow (X / 2 ^ q) (u - q - 1) 1

-- low bits of a number with k zeros under it
pub low_shifted : (A k p : ℕ) → A * 2 ^ k % 2 ^ p ≡ A % 2 ^ (p - k) * 2 ^ k
low_shifted A k p = go (dec_le k p)
  where
    none : A * 2 ^ k % 2 ^ k ≡ 0
    none = mul-mod_left A (2 ^ k)

    go : Dec (k ≤ p) → A * 2 ^ k % 2 ^ p ≡ A % 2 ^ (p - k) * 2 ^ k
    go (yes h) =
        let e : p ≡ p - k + k = omega arith in
        ap (λ t. A * 2 ^ k % 2 ^ t) e ∙ mod-pow-add (A * 2 ^ k) (p - k) k ∙ ap (λ t. t % 2 ^ (p - k) * 2 ^ k + A * 2 ^ k % 2 ^ k) (shl-shr A k) ∙ omega (arith, none)
    go (no h) =
        let e : k ≡ k - p + p = omega arith in
        let z : p - k ≡ 0 = omega arith in
        sym (ap (λ t. A * 2 ^ k % 2 ^ t % 2 ^ p) e ∙ mod-mod-pow (A * 2 ^ k) (k - p) p)
        ∙ ap (λ t. t % 2 ^ p) none
        ∙ zero-mod (2 ^ p)
        ∙ sym (ap (λ t. A % 2 ^ t * 2 ^ k) z ∙ ap (λ t. t * 2 ^ k) (mod-one A) ∙ zero-mul (2 ^ k))

zero_shr : (k : ℕ) → 0 / 2 ^ k ≡ 0
zero_shr k = zero-div (2 ^ k)

-- two bits by whether they differ
same_bits : (a b : ℕ) → bit_xor a b ≡ 0 → a ≡ b
same_bits a b e = omega (arith, xor_add_and a b, and_le_l a b, and_le_r a b)

other_bits : (a b : ℕ) → bit_xor a b ≡ 1 → a ≢ b
other_bits a b e k = omega (arith, ap (bit_xor a) k ∙ e, xor_self a)

-- ---- a stretch x from place `lowest` on: in its low 56 bits stand those of N, w places higher up
module _ (w N lowest x : ℕ) (some : 0 < w) (same : x % 2 ^ 56 ≡ N * 2 ^ w / 2 ^ lowest % 2 ^ 56) where
  abbrev D : ℕ
  D = bit_xor x (x / 2) / 2 ^ (w - 1)

  -- the window over its place q
  pub seen : (q : ℕ) → q + w < 56 → x / 2 ^ q % 2 ^ (w + 1) ≡ window_bits w N (lowest + q)
  seen q h =
      let R = N * 2 ^ w / 2 ^ lowest in
      same_high x R (w + 1) q (same_low x R 56 (w + 1 + q) (omega arith) same) ∙ ap (λ t. t % 2 ^ (w + 1)) (shr-shr (N * 2 ^ w) lowest q)

  -- the bit of place q, and the one under it
  pub here : (q : ℕ) → q + w < 56 → x / 2 ^ (q + w) % 2 ≡ bit N (lowest + q)
  here q h =
      let e : 1 + w ≡ w + 1 = omega arith in
      ap (λ t. t % 2) (sym (shr-shr x q w)) ∙ sym (field (x / 2 ^ q) 1 w) ∙ ap (λ t. x / 2 ^ q % 2 ^ t / 2 ^ w) e ∙ ap (λ t. t / 2 ^ w) (seen q h) ∙ opened_leading w N (lowest + q)

  pub under : (q : ℕ) → q + w < 56 → x / 2 ^ (q + (w - 1)) % 2 ≡ below N (lowest + q)
  under q h =
      ap (λ t. t % 2) (sym (shr-shr x q (w - 1))) ∙ sym (low_bit (x / 2 ^ q) (w + 1) (w - 1) (omega arith)) ∙ ap (λ t. t / 2 ^ (w - 1) % 2) (seen q h) ∙ opened_second w N (lowest + q) some

  -- whether they differ
  told : (q : ℕ) → q + w < 56 → D / 2 ^ q % 2 ≡ bit_xor (below N (lowest + q)) (bit N (lowest + q))
  told q h =
      let k = w - 1 + q in
      let e : k ≡ q + (w - 1) = omega arith in
      let f : 1 + k ≡ q + w = omega arith in
      ap (λ t. t % 2) (shr-shr (bit_xor x (x / 2)) (w - 1) q ∙ xor_shr x (x / 2) k)
      ∙ xor_mod (x / 2 ^ k) (x / 2 / 2 ^ k) 1
      ∙ ap (λ t. bit_xor t (x / 2 / 2 ^ k % 2)) (ap (λ t. x / 2 ^ t % 2) e ∙ under q h)
      ∙ ap (λ t. bit_xor (below N (lowest + q)) (t % 2)) (shr-shr x 1 k ∙ ap (λ t. x / 2 ^ t) f)
      ∙ ap (bit_xor (below N (lowest + q))) (here q h)

  -- the u lowest places
  module _ (u : ℕ) (room : u + w ≤ 56) where
    abbrev A : ℕ
    A = D % 2 ^ u

    told_low : (q : ℕ) → q < u → A / 2 ^ q % 2 ≡ bit_xor (below N (lowest + q)) (bit N (lowest + q))
    told_low q h = low_bit D u q h ∙ told q (omega arith)

    -- no window opens
    pub none_open : openings (w - 1) x u ≡ 0 → (q : ℕ) → q < u → bit N (lowest + q) ≡ below N (lowest + q)
    none_open e q h =
        let z : A ≡ 0 = sym (shl-shr A (w - 1)) ∙ ap (λ t. t / 2 ^ (w - 1)) e ∙ zero_shr (w - 1) in
        sym (same_bits _ _ (sym (told_low q h) ∙ ap (λ t. t / 2 ^ q % 2) z ∙ ap (λ t. t % 2) (zero_shr q)))

    -- or one does, so there are so many bits
    pub some_open : openings (w - 1) x u ≢ 0 → 2 ^ (w - 1) ≤ openings (w - 1) x u
    some_open n = go A n
      where
        go : (a : ℕ) → a * 2 ^ (w - 1) ≢ 0 → 2 ^ (w - 1) ≤ a * 2 ^ (w - 1)
        go zero f = absurd (f (zero-mul (2 ^ (w - 1))))
        go (suc a) f = omega (arith, suc-mul a (2 ^ (w - 1)))

    -- the highest opens at place r
    module _ (r : ℕ) (top : Highest (w - 1) (openings (w - 1) x u) r) where
      least : 2 ^ r ≤ A
      least =
          let e = ap (λ t. t / 2 ^ (w - 1)) (pow-add 2 r (w - 1)) ∙ shl-shr (2 ^ r) (w - 1) in
          omega (arith, shr_mono (w - 1) top.set, e, shl-shr A (w - 1))

      most : A < 2 ^ (r + 1)
      most =
          omega (arith, shl-shr A (w - 1), shr_lt (r + 1) (w - 1) top.over)

      pub inside : r < u
      inside = go (dec_lt r u)
        where
          go : Dec (r < u) → r < u
          go (yes h) = h
          go (no h) = absurd (omega (arith, least, mod-lt D (pow_pos u), pow_mono {i = u} {j = r} (omega arith)))

      -- the places over it are passed
      pub none_over : (q : ℕ) → r < q → q < u → bit N (lowest + q) ≡ below N (lowest + q)
      none_over q l h =
          let small : A < 2 ^ q = omega (arith, most, pow_mono {i = r + 1} {j = q} (omega arith)) in
          let k : q ≡ 0 + q = omega arith in
          let z : A / 2 ^ q < 1 = shr_lt 0 q (rw k at small) in
          sym (same_bits _ _ (sym (told_low q h) ∙ omega (arith, z)))

      -- and it is one
      pub opens_there : bit N (lowest + r) ≢ below N (lowest + r)
      opens_there e =
          let k : r + 1 ≡ 1 + r = omega arith in
          let hi : A / 2 ^ r < 2 = shr_lt 1 r (rw k at most) in
          let one : 2 ^ r / 2 ^ r ≡ 1 = ap (λ t. t / 2 ^ r) (sym (one-mul (2 ^ r))) ∙ shl-shr 1 r in
          let lo : 1 ≤ A / 2 ^ r = omega (arith, shr_mono r least) in
          other_bits _ _ (sym (told_low r inside) ∙ omega arith) (sym e)

      -- those that are left under its window
      pub left_open : openings (w - 1) x u % 2 ^ r ≡ openings (w - 1) x (r + 1 - w)
      left_open =
          let e : r - (w - 1) ≡ r + 1 - w = omega arith in
          let f : u ≡ u - (r + 1 - w) + (r + 1 - w) = let i = inside in omega arith in
          low_shifted A (w - 1) r ∙ ap (λ t. A % 2 ^ t * 2 ^ (w - 1)) e
          ∙ ap (λ t. t * 2 ^ (w - 1)) (ap (λ t. D % 2 ^ t % 2 ^ (r + 1 - w)) f ∙ mod-mod-pow D (u - (r + 1 - w)) (r + 1 - w))
