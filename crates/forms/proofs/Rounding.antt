-- Which candidate is closest to R, worked out: R / 2 ^ (j + 1) rounded, ties by the rule, where 2 ^ (j + w - 1) ≤ |R| ≤ 2 ^ (j + w); and R itself where
-- |R| ≤ 2 ^ (w - 1). So there is one for each R but 0. (In the paper's terms j = l - w + 1, 2 ^ l ≤ |R| < 2 ^ (l + 1).) Assumes nothing.
use mathlib.Core.Path.{◌≡◌, refl, sym, ap, ◌∙◌}
use mathlib.Core.Logic.{◌≢◌}
use Prim.Native.Nat.{ℕ, suc, ◌+◌, ◌*◌, ◌-◌, ◌/◌, ◌^◌, ◌<◌, ◌≤◌}
use native.Mathlib.Omega.{arith}
use native.Mathlib.Decide.{dec_le}
use native.Mathlib.Nat.{pow-succ', div-add-mod, mod-lt}
use lib.Pow.{pow_pos}
use lib.IntN.{ℤ, pos, nat_abs, ◌+ℤ◌, ◌-ℤ◌, ◌*ℤ◌}
use Rattle.laws.proofs.Integers.{parts, diffs, ring, abs_pos}
use Rattle.meaning.specs.Closest.{Tie, larger, smaller, IsClosest}
use Rattle.forms.proofs.Nearest.{Tied, round_closest, self_candidate, self_closest, sgn, sgn_far, scale}

-- a / (2 · H) to the nearest number, a tie up or down
unfoldable pub round : Tie → ℕ → ℕ → ℕ
round larger a H = (a + H) / (2 * H)
round smaller a H = (a + (H - 1)) / (2 * H)

-- the closest candidate, in units of 2 ^ (j + 1)
abbrev pub rounded : Tie → ℕ → ℤ → ℤ
rounded tie j R = pos (round tie (nat_abs R) (2 ^ j)) *ℤ sgn R

-- within H, and at H exactly on the side of the rule
abbrev Side : Tie → ℕ → ℕ → ℕ → Type 0
Side larger a H c = a + H ≤ c
Side smaller a H c = c + H ≤ a

-- such is the rounding
round_near : (tie : Tie) (a H : ℕ) → 0 < H → let c = 2 * H * round tie a H in (a - c + (c - a) ≤ H) × (a - c + (c - a) ≡ H → Side tie a H c)
unfolding round
round_near larger a H h = omega (arith, div-add-mod (a + H) (2 * H), mod-lt (a + H) {m = 2 * H} (omega arith))
round_near smaller a H h = omega (arith, div-add-mod (a + (H - 1)) (2 * H), mod-lt (a + (H - 1)) {m = 2 * H} (omega arith))

-- as the tie rule wants it
tied_side : (tie : Tie) (R c ρ : ℤ) (a H n : ℕ) → Side tie a H n → nat_abs R ≡ a → nat_abs c ≡ n → nat_abs ρ ≡ H → Tied tie R c ρ
unfolding Tied
tied_side larger R c ρ a H n s p q r = omega arith
tied_side smaller R c ρ a H n s p q r = omega arith

-- a part and the rest
split : (P : ℕ) (R v : ℤ) → R ≡ pos P *ℤ v +ℤ (R -ℤ pos P *ℤ v)
split P R v = rw (parts R, parts v) (simp diffs (omega ring))

-- the rounding is closest
pub rounded_closest : (tie : Tie) (w j : ℕ) → 2 ≤ w → (R : ℤ) → 2 ^ (j + w) ≤ 2 * nat_abs R → nat_abs R ≤ 2 ^ (j + w) → IsClosest tie w R (pos (2 ^ suc j) *ℤ rounded tie j R)
rounded_closest tie w j two R big top =
    let n = round tie (nat_abs R) (2 ^ j) in
    let v = rounded tie j R in
    let c = 2 * 2 ^ j * n in
    let P = pos (2 ^ suc j) in
    let e : P *ℤ v ≡ pos c *ℤ sgn R = law (2 ^ suc j) (2 * 2 ^ j) n (sgn R) (pow-succ' 2 j) in
    let (f, g) = sgn_far R c in
    let (l, s) = round_near tie (nat_abs R) (2 ^ j) (pow_pos j) in
    let d : nat_abs (R -ℤ P *ℤ v) ≡ nat_abs R - c + (c - nat_abs R) = ap (λ x. nat_abs (R -ℤ x)) e ∙ f in
    round_closest {v = v} {ρ = R -ℤ P *ℤ v} two
    (record { is = split (2 ^ suc j) R v; big = big; top = top; low = omega arith })
    (λ h. tied_side tie R (P *ℤ v) (R -ℤ P *ℤ v) (nat_abs R) (2 ^ j) c (s (sym d ∙ h)) refl (ap nat_abs e ∙ g) h)
  where
    law : (q P n : ℕ) (u : ℤ) → q ≡ P → pos q *ℤ (pos n *ℤ u) ≡ pos (P * n) *ℤ u
    law q P n u h = rw (h, parts u) (simp diffs (omega ring))

-- there is one
pub closest_exists : (tie : Tie) (w : ℕ) → 2 ≤ w → (R : ℤ) → R ≢ pos 0 → (c : ℤ) × IsClosest tie w R c
closest_exists tie w two R n = go (dec_le (2 * nat_abs R) (2 ^ w))
  where
    go : Dec (2 * nat_abs R ≤ 2 ^ w) → (c : ℤ) × IsClosest tie w R c
    go (yes l) = (R, self_closest R (self_candidate w two R (abs_pos R n) l))
    go (no l) =
        let (j, big, top) = scale w (2 * nat_abs R) (omega arith) in
        (pos (2 ^ suc j) *ℤ rounded tie j R, rounded_closest tie w j two R big (omega arith))
