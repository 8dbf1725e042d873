-- Integer arithmetic by `omega`, which reads naturals only: every integer is a difference `diff a b` of two naturals.
-- An equation of integers in the variables x and y is `rw (parts x, parts y) (simp diffs (omega ring))`.
-- A hypothesis `h` that is one is first turned, `let k = simp diffs at (rw (parts x, parts y) at h) in`.
-- A bound `nat_abs x ≤ B` is read through the fact `abs x`, and `abs_max x (omega ..)` proves one; `abs_is` tells an absolute value exactly. Assumes nothing.
use mathlib.Core.Path.{◌≡◌, refl, ap, ◌∙◌}
use mathlib.Core.Logic.{◌≢◌}
use mathlib.Core.Bool.{Bool, true, false, not, cond}
use Prim.Native.Nat.{ℕ, zero, suc, ◌+◌, ◌*◌, ◌-◌, ◌<◌, ◌≤◌, min}
use native.Mathlib.Omega.{arith}
use native.Mathlib.Nat.{pow-succ', lt_of_mul-lt-mul_left}
use lib.Dec.{T, ltb, ltb→lt, nltb→le}
use lib.IntN.{ℤ, pos, negsuc, neg_ℤ, nat_abs, sub_ℕ, ◌+ℤ◌, ◌-ℤ◌, ◌*ℤ◌}

-- the positive and the negative part
unfoldable pub up : ℤ → ℕ
up (pos n) = n
up (negsuc n) = 0

unfoldable pub dn : ℤ → ℕ
dn (pos n) = 0
dn (negsuc n) = suc n

-- the difference of p and n is z
abbrev pub Is : ℤ → ℕ → ℕ → Type 0
Is z p n = up z + n ≡ p + dn z

pub ext : (a b : ℤ) → up a + dn b ≡ up b + dn a → a ≡ b
unfolding up dn
ext (pos a) (pos b) h = ap pos (omega arith)
ext (pos a) (negsuc b) h = absurd (omega arith)
ext (negsuc a) (pos b) h = absurd (omega arith)
ext (negsuc a) (negsuc b) h = ap negsuc (omega arith)

cond_is : (c : Bool) (x y : ℤ) (p n : ℕ) → (T c → Is x p n) → (T (not c) → Is y p n) → Is (cond c x y) p n
cond_is true x y p n f g = f tt
cond_is false x y p n f g = g tt

subℕ_is : (a b : ℕ) → Is (sub_ℕ a b) a b
unfolding up dn
subℕ_is a b = cond_is (ltb a b) (negsuc (b - suc a)) (pos (a - b)) a b (λ t. less (ltb→lt a b t)) (λ t. more (nltb→le a b t))
  where
    less : a < b → 0 + b ≡ a + suc (b - suc a)
    less h = omega arith

    more : b ≤ a → (a - b) + b ≡ a + 0
    more h = omega arith

pub neg_is : (a : ℤ) → Is (neg_ℤ a) (dn a) (up a)
unfolding up dn
neg_is (pos zero) = refl
neg_is (pos (suc n)) = omega arith
neg_is (negsuc n) = omega arith

pub add_is : (a b : ℤ) → Is (a +ℤ b) (up a + up b) (dn a + dn b)
unfolding up dn
add_is (pos a) (pos b) = omega arith
add_is (pos a) (negsuc b) = omega (arith, subℕ_is a (suc b))
add_is (negsuc a) (pos b) = omega (arith, subℕ_is b (suc a))
add_is (negsuc a) (negsuc b) = omega arith

pub mul_is : (a b : ℤ) → Is (a *ℤ b) (up a * up b + dn a * dn b) (up a * dn b + dn a * up b)
unfolding up dn
mul_is (pos a) (pos b) = omega arith
mul_is (pos a) (negsuc b) = omega (arith, neg_is (pos (a * suc b)))
mul_is (negsuc a) (pos b) = omega (arith, neg_is (pos (suc a * b)))
mul_is (negsuc a) (negsuc b) = omega arith

-- ---- differences
pub diff : ℕ → ℕ → ℤ
diff a b = sub_ℕ a b

pub diff_is : (a b : ℕ) → Is (diff a b) a b
unfolding diff
diff_is a b = subℕ_is a b

pub diff_eq : (a b c d : ℕ) → a + d ≡ c + b → diff a b ≡ diff c d
diff_eq a b c d h = ext (diff a b) (diff c d) (omega (arith, diff_is a b, diff_is c d))

pub diff_inj : (a b c d : ℕ) → diff a b ≡ diff c d → a + d ≡ c + b
diff_inj a b c d h = omega (arith, ap up h, ap dn h, diff_is a b, diff_is c d)

-- an integer is the difference that it is
is_diff : (z : ℤ) (p n : ℕ) → Is z p n → z ≡ diff p n
is_diff z p n h = ext z (diff p n) (omega (arith, diff_is p n))

pub diff_add : (a b c d : ℕ) → diff a b +ℤ diff c d ≡ diff (a + c) (b + d)
diff_add a b c d = is_diff (diff a b +ℤ diff c d) (a + c) (b + d) (omega (arith, add_is (diff a b) (diff c d), diff_is a b, diff_is c d))

pub diff_neg : (a b : ℕ) → neg_ℤ (diff a b) ≡ diff b a
diff_neg a b = is_diff (neg_ℤ (diff a b)) b a (omega (arith, neg_is (diff a b), diff_is a b))

pub diff_mul : (a b c d : ℕ) → diff a b *ℤ diff c d ≡ diff (a * c + b * d) (a * d + b * c)
diff_mul a b c d = is_diff (x *ℤ y) (a * c + b * d) (a * d + b * c)
    (omega (arith, mul_is x y, ap (λ t. t * up y) h, ap (λ t. t * dn y) h, ap (λ t. a * t) k, ap (λ t. b * t) k))
  where
    x : ℤ
    x = diff a b

    y : ℤ
    y = diff c d

    h : Is x a b
    h = diff_is a b

    k : Is y c d
    k = diff_is c d

pub diff_pos : (a : ℕ) → pos a ≡ diff a 0
unfolding up dn
diff_pos a = is_diff (pos a) a 0 refl

pub diff_negsuc : (a : ℕ) → negsuc a ≡ diff 0 (suc a)
unfolding up dn
diff_negsuc a = is_diff (negsuc a) 0 (suc a) refl

pub parts : (z : ℤ) → z ≡ diff (up z) (dn z)
parts z = is_diff z (up z) (dn z) refl

-- to one difference on each side; and what `omega` reads such an equation by. A power's product has to be seen: 2 ^ suc k is 2 * 2 ^ k
pub ruleset diffs = (diff_add, diff_mul, diff_neg, diff_pos, diff_negsuc, pow-succ')

pub ruleset ring = (arith, diff_eq, diff_inj)

-- ---- bounds
pub abs : (z : ℤ) → (up z ≤ dn z + nat_abs z) × (dn z ≤ up z + nat_abs z)
unfolding up dn
abs (pos a) = omega arith
abs (negsuc a) = omega arith

pub abs_max : (z : ℤ) {B : ℕ} → (up z ≤ dn z + B) × (dn z ≤ up z + B) → nat_abs z ≤ B
unfolding up dn
abs_max (pos a) h = omega arith
abs_max (negsuc a) h = omega arith

pub abs_neg : (n : ℕ) → nat_abs (neg_ℤ (pos n)) ≡ n
abs_neg zero = refl
abs_neg (suc n) = refl

pub abs_mul : (m : ℕ) (z : ℤ) → nat_abs (pos m *ℤ z) ≡ m * nat_abs z
abs_mul m (pos a) = refl
abs_mul m (negsuc a) = abs_neg (m * suc a)

pub abs_add : (x y : ℤ) → nat_abs (x +ℤ y) ≤ nat_abs x + nat_abs y
abs_add x y = abs_max (x +ℤ y) (omega (arith, add_is x y, abs x, abs y))

-- a block and a rest, bounded both ways
pub abs_block : (m : ℕ) (z x r : ℤ) → z ≡ pos m *ℤ x +ℤ r → (nat_abs z ≤ m * nat_abs x + nat_abs r) × (m * nat_abs x ≤ nat_abs z + nat_abs r)
abs_block m z x r e =
    let s = add_is (pos m *ℤ x) r in
    let a = abs_mul m x in
    let l = abs_max (pos m *ℤ x) {B = nat_abs z + nat_abs r} (omega (arith, abs z, abs r, ap up e, ap dn e)) in
    (rw (e, ← a) (abs_add (pos m *ℤ x) r), omega arith)

-- ---- absolute values exactly
pub abs_is : (z : ℤ) → (nat_abs z ≡ up z + dn z) × (min (up z) (dn z) ≡ 0)
unfolding up dn
abs_is (pos a) = omega arith
abs_is (negsuc a) = omega arith

-- a difference
pub sub_is : (x y : ℤ) → up (x -ℤ y) + (dn x + up y) ≡ up x + dn y + dn (x -ℤ y)
sub_is x y = omega (arith, add_is x (neg_ℤ y), neg_is y)

-- only 0 has no size
pub abs_zero : (z : ℤ) → nat_abs z ≤ 0 → z ≡ pos 0
abs_zero z h = rw (parts z) (simp diffs (omega (ring, abs z)))

pub abs_pos : (z : ℤ) → z ≢ pos 0 → 0 < nat_abs z
abs_pos (pos zero) n = absurd (n refl)
abs_pos (pos (suc a)) n = omega arith
abs_pos (negsuc a) n = omega arith

pub abs_negate : (z : ℤ) → nat_abs (neg_ℤ z) ≡ nat_abs z
abs_negate (pos zero) = refl
abs_negate (pos (suc n)) = refl
abs_negate (negsuc n) = refl

-- a negative number as a difference
pub minus : (o : ℕ) → neg_ℤ (pos o) ≡ diff 0 o
minus o = ap neg_ℤ (diff_pos o) ∙ diff_neg o 0

-- a factor is taken off both sides
pub cancel : (P : ℕ) → 0 < P → (x y : ℤ) → pos P *ℤ x ≡ pos P *ℤ y → x ≡ y
cancel P h x y e =
    let k = simp diffs at (rw (parts x, parts y) at e) in
    let l = lt_of_mul-lt-mul_left P {m = up x + dn y} {n = up y + dn x + 1} (omega ring) in
    let l' = lt_of_mul-lt-mul_left P {m = up y + dn x} {n = up x + dn y + 1} (omega ring) in
    rw (parts x, parts y) (omega ring)

-- and a summand
pub same_left : (x y z : ℤ) → x +ℤ z ≡ y +ℤ z → x ≡ y
same_left x y z e = let k = simp diffs at (rw (parts x, parts y, parts z) at e) in rw (parts x, parts y) (omega ring)

-- no difference
pub sub_zero_same : (x y : ℤ) → x -ℤ y ≡ pos 0 → x ≡ y
sub_zero_same x y z = let k = simp diffs at (rw (parts x, parts y) at z) in rw (parts x, parts y) (omega ring)

-- ---- differences of naturals
pub above : (a c : ℕ) → c ≤ a → pos a -ℤ pos c ≡ pos (a - c)
above a c h = rw (minus c) (simp diffs (omega ring))

-- what two take from a smaller number
pub beneath_more : (a b c : ℕ) → a ≤ b → pos a -ℤ pos b -ℤ pos c ≡ neg_ℤ (pos (b - a + c))
beneath_more a b c h = rw (minus (b - a + c), minus b, minus c) (simp diffs (omega ring))

-- nothing taken off
pub sub_none : (z : ℤ) → z -ℤ pos 0 ≡ z
sub_none z = rw (parts z) (simp diffs (omega ring))
