-- A string and a number compared from the lowest places up: what a stretch of places is worth, what one comparison leaves, and how the whole ends.
-- Assumes nothing.
use mathlib.Core.Path.{◌≡◌, ap, ◌∙◌}
use mathlib.Core.List.{List, [], ◌∷◌}
use Prim.Native.Nat.{ℕ, zero, suc, ◌+◌, ◌*◌, ◌-◌, ◌/◌, ◌%◌, ◌^◌, ◌<◌, ◌≤◌}
use native.Mathlib.Numerals.{add-one}
use native.Mathlib.Nat.{pow-succ', div-add-mod, div-eq_of_lt}
use native.Mathlib.Omega.{arith}
use native.Mathlib.Decide.{dec_lt}
use borrow.Author.Tests.{eqb-true, eqb-false}
use lib.Dec.{eqb}
use lib.IntN.{ℤ, pos, nat_abs, ◌+ℤ◌, ◌*ℤ◌}
use lib.ListN.{length, get_or, take, drop, length-take, drop_of_length-le, get_or-eq_default}
use lib.Seq.{drop-cons, drop-drop}
use lib.Pow.{shr-shr}
use Rattle.laws.specs.Deciding.{Decides}
use Rattle.laws.proofs.Integers.{parts, diffs, ring}
use Rattle.meaning.specs.Digits.{worth}
use Rattle.judge.specs.Levels.{level, Raised, Stretch, Level, Turned}
use Rattle.judge.specs.declared.Turn.{Turn}

-- ---- stretches of places
-- one place and those above it, also above the string
worth_from : (ds : List ℤ) (i : ℕ) → worth (drop i ds) ≡ get_or ds i (pos 0) +ℤ pos 2 *ℤ worth (drop (i + 1) ds)
unfolding worth
worth_from ds i = go (dec_lt i (length ds))
  where
    go : Dec (i < length ds) → worth (drop i ds) ≡ get_or ds i (pos 0) +ℤ pos 2 *ℤ worth (drop (i + 1) ds)
    go (yes h) = rw add-one (ap worth (drop-cons ds i (pos 0) h))
    go (no h) =
        let here = drop_of_length-le ds {i = i} (omega arith) in
        let above = drop_of_length-le ds {i = i + 1} (omega arith) in
        let none = get_or-eq_default ds (pos 0) {n = i} (omega arith) in
        rw (here, above, none)

-- one place more, under the others
pub stretch_more : (ds : List ℤ) (i m r s : ℕ) → Raised level (get_or ds i (pos 0)) r → Stretch ds (i + 1) m s → Stretch ds i (suc m) (2 * s + r)
stretch_more ds i m r s d h =
    record {
      is =
          rw pow-succ' (law (2 ^ m) (get_or ds i (pos 0)) (worth (drop i ds)) (worth (drop (i + 1) ds)) (worth (drop (i + suc m) ds)) (worth_from ds i) d.is
          (rw above at h.is));
      least = omega (arith, d.least, h.least, pow-succ' 2 m);
      most = omega (arith, d.most, h.most, pow-succ' 2 m);
    }
  where
    above : i + 1 + m ≡ i + suc m
    above = omega arith

    law : (P : ℕ) (d W X Y : ℤ) → W ≡ d +ℤ pos 2 *ℤ X → pos r ≡ d +ℤ pos level → X +ℤ pos (level * P) ≡ pos (s + level) +ℤ pos P *ℤ Y → W +ℤ pos (level * (2 * P)) ≡ pos (2 * s + r + level) +ℤ pos (2 * P) *ℤ Y
    law P d W X Y e f g =
        let k = simp diffs at (rw (parts d) at f) in
        let l = simp diffs at (rw (parts X, parts Y) at g) in
        rw (e, parts d, parts X, parts Y) (simp diffs (omega ring))

-- the worth of a list by its first n digits and the others
worth_split : (n : ℕ) (ds : List ℤ) → worth ds ≡ worth (take n ds) +ℤ pos (2 ^ n) *ℤ worth (drop n ds)
unfolding worth
worth_split zero ds = whole (worth ds)
  where
    whole : (W : ℤ) → W ≡ pos 0 +ℤ pos 1 *ℤ W
    whole W = rw (parts W) (simp diffs (omega ring))
worth_split (suc n) [] = ap pos (omega arith)
worth_split (suc n) (d ∷ ds) = rw pow-succ' (law (2 ^ n) (worth ds) (worth (take n ds)) (worth (drop n ds)) (worth_split n ds))
  where
    law : (P : ℕ) (W X Y : ℤ) → W ≡ X +ℤ pos P *ℤ Y → d +ℤ pos 2 *ℤ W ≡ (d +ℤ pos 2 *ℤ X) +ℤ pos (2 * P) *ℤ Y
    law P W X Y e = rw (e, parts d, parts X, parts Y) (simp diffs (omega ring))

-- eight places of a part that has them alone
pub stretch_part : (ds : List ℤ) (i r : ℕ) → Stretch (take 8 (drop i ds)) 0 8 r → Stretch ds i 8 r
unfolding worth
stretch_part ds i r h =
    let xs = drop i ds in
    let none = drop_of_length-le (take 8 xs) {i = 8} (omega (arith, length-take 8 xs)) in
    record {
      is = law (worth xs) (worth (take 8 xs)) (worth (drop (i + 8) ds)) (worth_split 8 xs ∙ ap (λ ys. worth (take 8 xs) +ℤ pos 256 *ℤ worth ys) (drop-drop 8 i ds)) (rw none at h.is);
      least = h.least;
      most = h.most;
    }
  where
    law : (W X Y : ℤ) → W ≡ X +ℤ pos 256 *ℤ Y → X +ℤ pos (level * 256) ≡ pos (r + level) +ℤ pos 256 *ℤ pos 0 → W +ℤ pos (level * 256) ≡ pos (r + level) +ℤ pos 256 *ℤ Y
    law W X Y e f =
        let k = simp diffs at (rw (parts X) at f) in
        rw (e, parts X, parts Y) (simp diffs (omega ring))

-- and above the string
pub stretch_above : (ds : List ℤ) (i : ℕ) → length ds ≤ i → Stretch ds i 8 (255 * level)
unfolding worth
stretch_above ds i l =
    let here = drop_of_length-le ds {i = i} l in
    let above = drop_of_length-le ds {i = i + 8} (omega arith) in
    record { is = rw (here, above); least = omega arith; most = omega arith }

-- ---- one comparison
-- eight places of worth e, a byte b and a carry c leave l and the carry c'
module _ (W W' : ℤ) (M M' e b c l c' : ℕ) (places : W +ℤ pos (level * 256) ≡ pos (e + level) +ℤ pos 256 *ℤ W') (bytes : M ≡ 256 * M' + b) (sum : e + c ≡ b + (256 * c' + l)) (small : l < 256) where
  left_none : W +ℤ pos c ≡ pos (M + level) → l ≡ 0
  left_none h =
      let k = simp diffs at (rw (parts W, parts W') at places) in
      let m = simp diffs at (rw (parts W) at h) in
      omega ring

  left_there : l ≡ 0 → W +ℤ pos c ≡ pos (M + level) → W' +ℤ pos c' ≡ pos (M' + level)
  left_there z h =
      let k = simp diffs at (rw (parts W, parts W') at places) in
      let m = simp diffs at (rw (parts W) at h) in
      rw (parts W') (simp diffs (omega ring))

  left_back : l ≡ 0 → W' +ℤ pos c' ≡ pos (M' + level) → W +ℤ pos c ≡ pos (M + level)
  left_back z h =
      let k = simp diffs at (rw (parts W, parts W') at places) in
      let m = simp diffs at (rw (parts W') at h) in
      rw (parts W) (simp diffs (omega ring))

-- as code has it
pub turned : {N : ℕ} {ds : List ℤ} {q e b : ℕ} (c : ℕ) → c ≤ 512 → Stretch ds (8 * q) 8 e → b ≡ N / 2 ^ (8 * q) % 256 → Turned N ds q c (record { carry = (e - b + c) / 256; left = (e - b + c) % 256 })
turned {N} {ds} {q} {e} {b} c h s k =
    let M = N / 2 ^ (8 * q) in
    let M' = N / 2 ^ (8 * q + 8) in
    let W = worth (drop (8 * q) ds) in
    let W' = worth (drop (8 * q + 8) ds) in
    let l = (e - b + c) % 256 in
    let c' = (e - b + c) / 256 in
    let next : 8 * (q + 1) ≡ 8 * q + 8 = omega arith in
    let bytes : M ≡ 256 * M' + b = omega (arith, div-add-mod M 256, shr-shr N (8 * q) 8) in
    let sum : e + c ≡ b + (256 * c' + l) = omega (arith, s.least) in
    record {
      small = omega (arith, s.most);
      differs = λ n f. n (left_none W W' M M' e b c l c' s.is bytes sum (omega arith) f);
      there = λ z f. rw next (left_there W W' M M' e b c l c' s.is bytes sum (omega arith) z f);
      back = λ z f. left_back W W' M M' e b c l c' s.is bytes sum (omega arith) z (rw next at f);
    }

-- ---- the whole
-- up to the q-th eight places the string is worth the number exactly when it is from there up
pub record Compared (N : ℕ) (ds : List ℤ) (q carry : ℕ) : Type 0 where
  pub small : carry ≤ 512
  pub there : worth ds ≡ pos N → Level N ds (8 * q) carry
  pub back : Level N ds (8 * q) carry → worth ds ≡ pos N

module _ (N : ℕ) (ds : List ℤ) where
  -- eight places more
  pub compare_more : (q carry : ℕ) {t : Turn} → Compared N ds q carry → Turned N ds q carry t → t.left ≡ 0 → Compared N ds (q + 1) t.carry
  compare_more q carry h k z =
      record {
        small = k.small;
        there = λ e. k.there z (h.there e);
        back = λ e. h.back (k.back z e);
      }

  -- above the string and the number: nothing may be carried
  pub compare_all : (q carry : ℕ) → Compared N ds q carry → length ds ≤ 8 * q → N < 2 ^ (8 * q) → Decides (eqb carry level) (worth ds ≡ pos N)
  unfolding worth
  compare_all q carry h l s =
      let none = drop_of_length-le ds {i = 8 * q} l in
      let high = div-eq_of_lt s in
      record {
        yes = λ t. h.back (rw (none, high) (ap pos (omega (arith, eqb-true carry level t))));
        no = λ t e. eqb-false carry level t (omega (arith, ap nat_abs (rw (none, high) at (h.there e))));
      }
