-- One place by bits and carries: the digit's level, the digits, the carries that go on, and the columns as digits. Assumes nothing.
use mathlib.Core.Path.{◌≡◌, refl, ap, ◌∙◌}
use mathlib.Core.List.{[], ◌∷◌}
use Prim.Native.Nat.{ℕ, zero, suc, ◌+◌, ◌*◌, ◌-◌, ◌/◌, ◌%◌, ◌^◌, ◌≤◌, ◌<◌}
use native.Mathlib.Omega.{arith}
use lib.Dec.{T, eqb, eqb→eq}
use lib.IntN.{ℤ, pos, negsuc}
use lib.Pow.{shr-shr}
use mir.Syntax.{w8}
use mir.Val.{to_z, of_z, bool_byte}
use Rattle.std.specs.Prelude.{slice_index_or}
use Rattle.meaning.specs.Joint.{column}
use Rattle.pairs.specs.Columns.{D, neg, nil, one, val, off, rule, dig_n, next_n, carry_n}
use Rattle.pairs.proofs.Tested.{both, below, below_at}
use Rattle.pairs.proofs.Form.{off_max}
use Rattle.pairs.proofs.Steps.{parity_law}
use Rattle.pairs.proofs.Naturals.{next_bits}
use Rattle.joint.specs.Places.{levelled, side_of, remains, Placed}

-- ---- levels
-- 1 beside a number that is 2 modulo 4, else 0
abbrev turned : ℕ → ℕ
turned s = bool_byte (eqb (s % 4) 2)

-- the rule read from the constant, tested over the 64 pairs of residues
levels_are : T (below 8 (λ r. below 8 (λ s. eqb (295246105 / 2 ^ (2 * r + 16 * turned s) % 4) (off (rule r s)))))
unfolding below both off rule
levels_are = tt

pub level_is : (r s : ℕ) → r < 8 → s < 8 → 295246105 / 2 ^ (2 * r + 16 * turned s) % 4 ≡ off (rule r s)
level_is r s hr hs = eqb→eq _ _ (below_at 8 _ (below_at 8 _ levels_are r hr) s hs)

-- a level's digit
pub levelled_is : (d : D) → levelled (off d) ≡ val d
unfolding off val
levelled_is neg = refl
levelled_is nil = refl
levelled_is one = refl

-- ---- the place
-- a level is at most what the low bit and the carry leave
pub level_le : (x c s : ℕ) → s < 8 → off (rule ((x + c) % 8) s) ≤ x % 2 + c + 1
level_le x c s h = omega (arith, parity_law ((x + c) % 8) s (omega arith) h, off_max (rule ((x + c) % 8) s))

-- residues of what remains, out of three bits and a carry
low : (a c : ℕ) → (a % 8 + c) % 8 ≡ (a + c) % 8
low a c = omega arith

level_of : (a b c d : ℕ) {x y : ℕ} → x ≡ a % 8 → y ≡ b % 8 → rule ((x + c) % 8) ((y + d) % 8) ≡ dig_n (a + c) (b + d)
unfolding dig_n
level_of a b c d e f = rw (e, f, low a c, low b d)

-- what goes on
next_of : (N i c b x : ℕ) → c ≤ 1 → x ≡ N / 2 ^ i % 8 → let k = (x % 2 + c + 1 - off (dig_n (remains N i c) b)) / 2 in (next_n (remains N i c) b ≡ remains N (suc i) k) × (k ≤ 1)
unfolding carry_n
next_of N i c b x h e =
    let v = off (dig_n (remains N i c) b) in
    let (p, q) = next_bits (N / 2 ^ i) c b h in
    let bit : x % 2 ≡ N / 2 ^ i % 2 = omega arith in
    let up : N / 2 ^ i / 2 ≡ N / 2 ^ suc i = shr-shr N i 1 ∙ ap (λ t. N / 2 ^ t) (omega arith) in
    rw (bit, ← up) (p, q)

pub placed : (A B i c d x y p q : ℕ) (f g : ℤ) → c ≤ 1 → d ≤ 1 → x ≡ A / 2 ^ i % 8 → y ≡ B / 2 ^ i % 8 → p ≡ off (rule ((x + c) % 8) ((y + d) % 8)) → q ≡ off (rule ((y + d) % 8) ((x + c) % 8))
    → f ≡ levelled p → g ≡ levelled q → Placed A B i c d (record { first = f; second = g; carry = (x % 2 + c + 1 - p) / 2; other = (y % 2 + d + 1 - q) / 2 })
placed A B i c d x y p q f g hc hd ex ey ep eq ef eg =
    let u = dig_n (remains A i c) (remains B i d) in
    let v = dig_n (remains B i d) (remains A i c) in
    let p_is : p ≡ off u = ep ∙ ap off (level_of (A / 2 ^ i) (B / 2 ^ i) c d ex ey) in
    let q_is : q ≡ off v = eq ∙ ap off (level_of (B / 2 ^ i) (A / 2 ^ i) d c ey ex) in
    let (a, k) = next_of A i c (remains B i d) x hc ex in
    let (b, l) = next_of B i d (remains A i c) y hd ey in
    record {
      first_is = ef ∙ ap levelled p_is ∙ levelled_is u;
      second_is = eg ∙ ap levelled q_is ∙ levelled_is v;
      carry_is = rw p_is a;
      other_is = rw q_is b;
      carry_few = rw p_is k;
      other_few = rw q_is l;
    }

-- ---- columns
-- the digit of each pair of sides, read from the constant
abbrev by_sides : ℕ → ℕ → ℤ
by_sides p q =
    to_z w8
    (of_z w8 (slice_index_or (slice_index_or ((negsuc 4 ∷ negsuc 0 ∷ negsuc 6 ∷ []) ∷ (negsuc 2 ∷ pos 0 ∷ pos 3 ∷ []) ∷ (pos 7 ∷ pos 1 ∷ pos 5 ∷ []) ∷ []) p []) q (pos 0)))

looked : (x y : ℤ) → by_sides (side_of x) (side_of y) ≡ column x y
unfolding column
looked (negsuc n) (negsuc m) = refl
looked (negsuc n) (pos zero) = refl
looked (negsuc n) (pos (suc m)) = refl
looked (pos zero) (negsuc m) = refl
looked (pos zero) (pos zero) = refl
looked (pos zero) (pos (suc m)) = refl
looked (pos (suc n)) (negsuc m) = refl
looked (pos (suc n)) (pos zero) = refl
looked (pos (suc n)) (pos (suc m)) = refl

pub column_by : (x y : ℤ) {p q : ℕ} → p ≡ side_of x → q ≡ side_of y → by_sides p q ≡ column x y
column_by x y {p} {q} e f = ap (λ p. by_sides p q) e ∙ ap (by_sides (side_of x)) f ∙ looked x y
