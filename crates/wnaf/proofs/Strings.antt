-- The digits of a string that are not 0: what they count, and that the string comes of them where they are put into zeros. Assumes nothing.
use mathlib.Core.Path.{◌≡◌, refl, sym, ap, ◌∙◌}
use mathlib.Core.Logic.{◌≢◌}
use mathlib.Core.List.{List, [], ◌∷◌, ◌++◌, append_assoc}
use Prim.Native.Nat.{ℕ, zero, suc, ◌+◌, ◌-◌, ◌^◌, ◌<◌, ◌≤◌}
use native.Mathlib.Omega.{arith}
use lib.ListN.{length, get_or, set, replicate, length-replicate, length-append}
use lib.IntN.{ℤ, pos, negsuc, nat_abs}
use lib.Signed.{mag}
use mir.Syntax.{w8}
use mir.Val.{to_z, of_z}
use mir.Facts.{to_z-of_z}
use Rattle.meaning.specs.Digits.{nonzero, weight, top, over}
use Rattle.meaning.specs.Sets.{Between}
use Rattle.forms.specs.Fractional.{fractional_from, remaining}
use Rattle.forms.proofs.DigitSets.{in_size}
use Rattle.forms.proofs.Fractional.{fractional_digits}
use Rattle.forms.proofs.Made.{fractional_is, from_length}
use Rattle.forms.proofs.Strings.{all_at}
use Rattle.wnaf.specs.Stretches.{found, coming}

-- ---- a digit
pub found_digit : (i : ℕ) (z : ℤ) (ds : List ℤ) → z ≢ pos 0 → found i (z ∷ ds) ≡ (i, z) ∷ found (i + 1) ds
unfolding found
found_digit i (pos zero) ds n = absurd (n refl)
found_digit i (pos (suc k)) ds n = refl
found_digit i (negsuc k) ds n = refl

pub found_pass : (i : ℕ) (ds : List ℤ) → found i (pos 0 ∷ ds) ≡ found (i + 1) ds
unfolding found
found_pass i ds = refl

-- ---- what they count
pub found_weight : (i : ℕ) (ds : List ℤ) → length (found i ds) ≡ weight ds
unfolding found weight nonzero
found_weight i [] = refl
found_weight i (pos zero ∷ ds) = omega (arith, found_weight (i + 1) ds)
found_weight i (pos (suc n) ∷ ds) = omega (arith, found_weight (i + 1) ds)
found_weight i (negsuc n ∷ ds) = omega (arith, found_weight (i + 1) ds)

-- the top by those that are left, over one that is known
abbrev pub topped : ℕ → List (ℕ × ℤ) → ℕ
topped t [] = t
topped t (f ∷ fs) = topped (f.0 + 1) fs

raised : (t i n : ℕ) → ℕ
raised t i zero = t
raised t i (suc n) = i + suc n

found_raised : (t i : ℕ) (ds : List ℤ) → topped t (found i ds) ≡ raised t i (top ds)
unfolding found top nonzero raised
found_raised t i [] = refl
found_raised t i (pos zero ∷ ds) = found_raised t (i + 1) ds ∙ go (top ds)
  where
    go : (n : ℕ) → raised t (i + 1) n ≡ raised t i (over 0 n)
    go zero = refl
    go (suc n) = omega arith
found_raised t i (pos (suc k) ∷ ds) = found_raised (i + 1) (i + 1) ds ∙ go (top ds)
  where
    go : (n : ℕ) → raised (i + 1) (i + 1) n ≡ raised t i (over 1 n)
    go zero = refl
    go (suc n) = omega arith
found_raised t i (negsuc k ∷ ds) = found_raised (i + 1) (i + 1) ds ∙ go (top ds)
  where
    go : (n : ℕ) → raised (i + 1) (i + 1) n ≡ raised t i (over 1 n)
    go zero = refl
    go (suc n) = omega arith

pub found_top : (ds : List ℤ) → topped 0 (found 0 ds) ≡ top ds
unfolding raised
found_top ds = found_raised 0 0 ds ∙ go (top ds)
  where
    go : (n : ℕ) → raised 0 0 n ≡ n
    go zero = refl
    go (suc n) = omega arith

-- ---- the string
-- where none is left all places hold 0
found_none : (i : ℕ) (ds : List ℤ) → found i ds ≡ [] → ds ≡ replicate (length ds) (pos 0)
unfolding found
found_none i [] e = refl
found_none i (pos zero ∷ ds) e = ap (λ t. pos 0 ∷ t) (found_none (i + 1) ds e)
found_none i (pos (suc n) ∷ ds) e = absurd (cc e)
found_none i (negsuc n ∷ ds) e = absurd (cc e)

-- the first stands over zeros
record Next (i j : ℕ) (z : ℤ) (fs : List (ℕ × ℤ)) (ds : List ℤ) : Type 0 where
  pub under : ℕ
  pub others : List ℤ
  pub place_is : j ≡ i + under
  pub some : z ≢ pos 0
  pub string_is : ds ≡ replicate under (pos 0) ++ z ∷ others
  pub others_are : fs ≡ found (j + 1) others

found_next : (i j : ℕ) (z : ℤ) (fs : List (ℕ × ℤ)) (ds : List ℤ) → found i ds ≡ (j, z) ∷ fs → Next i j z fs ds
unfolding found
found_next i j z fs [] e = absurd (cc e)
found_next i j z fs (pos zero ∷ ds) e =
    let n = found_next (i + 1) j z fs ds e in
    record { under = suc n.under; others = n.others; place_is = omega (arith, n.place_is); some = n.some; string_is = ap (λ t. pos 0 ∷ t) n.string_is; others_are = n.others_are }
found_next i j z fs (pos (suc k) ∷ ds) e =
    let first : ◌≡◌ {A = ℕ × ℤ} (i, pos (suc k)) (j, z) = cc e in
    let more : found (i + 1) ds ≡ fs = cc e in
    let at : i ≡ j = ap (λ t. t.0) first in
    let is : pos (suc k) ≡ z = ap (λ t. t.1) first in
    record { under = 0; others = ds; place_is = omega arith; some = λ n. absurd (cc (is, n)); string_is = ap (λ t. t ∷ ds) is; others_are = sym more ∙ ap (λ t. found (t + 1) ds) at }
found_next i j z fs (negsuc k ∷ ds) e =
    let first : ◌≡◌ {A = ℕ × ℤ} (i, negsuc k) (j, z) = cc e in
    let more : found (i + 1) ds ≡ fs = cc e in
    let at : i ≡ j = ap (λ t. t.0) first in
    let is : negsuc k ≡ z = ap (λ t. t.1) first in
    record { under = 0; others = ds; place_is = omega arith; some = λ n. absurd (cc (is, n)); string_is = ap (λ t. t ∷ ds) is; others_are = sym more ∙ ap (λ t. found (t + 1) ds) at }

-- none stands past the last place
pub coming_inside : (w m p N i c s : ℕ) {j : ℕ} {z : ℤ} {fs : List (ℕ × ℤ)} → coming w m p N i c s ≡ (j, z) ∷ fs → j < p
coming_inside w m p N i c s {j} {z} {fs} e =
    let R = remaining N i c s in
    let n = found_next i j z fs (fractional_from w m (p - i) R) e in
    omega (arith, n.place_is, ap length n.string_is, from_length w m (p - i) R, length-append (replicate n.under (pos 0)) (z ∷ n.others), length-replicate n.under (pos 0))

-- a buffer holds the lower digits of a string and zeros over them, and these are to come
pub record Partly (string ds : List ℤ) (fs : List (ℕ × ℤ)) : Type 0 where
  pub under : List ℤ
  pub others : List ℤ
  pub string_is : string ≡ under ++ others
  pub buffer_is : ds ≡ under ++ replicate (length others) (pos 0)
  pub coming_are : fs ≡ found (length under) others

pub partly_none : (string : List ℤ) {ds : List ℤ} → ds ≡ replicate (length string) (pos 0) → Partly string ds (found 0 string)
partly_none string e = record { under = []; others = string; string_is = refl; buffer_is = e; coming_are = refl }

pub partly_all : {string ds : List ℤ} → Partly string ds [] → ds ≡ string
partly_all p = p.buffer_is ∙ ap (λ t. p.under ++ t) (sym (found_none (length p.under) p.others (sym p.coming_are))) ∙ sym p.string_is

pub partly_length : {string ds : List ℤ} {fs : List (ℕ × ℤ)} → Partly string ds fs → length ds ≡ length string
partly_length p =
    ap length p.buffer_is ∙ length-append p.under (replicate (length p.others) (pos 0)) ∙ ap (λ t. length p.under + t) (length-replicate (length p.others) (pos 0))
    ∙ sym (ap length p.string_is ∙ length-append p.under p.others)

-- the first of those to come, put where it stands
pub record Puts (string ds : List ℤ) (j : ℕ) (z : ℤ) (fs : List (ℕ × ℤ)) : Type 0 where
  pub inside : j < length ds
  pub clear : get_or ds j (pos 0) ≡ pos 0
  pub some : z ≢ pos 0
  pub is : z ≡ get_or string j (pos 0)
  pub put : Partly string (set ds j z) fs

zeros_more : (k n : ℕ) → replicate (k + suc n) (pos 0) ≡ replicate k (pos 0) ++ pos 0 ∷ replicate n (pos 0)
zeros_more zero n = ap (λ t. replicate t (pos 0)) {x = 0 + suc n} {y = suc n} (omega arith)
zeros_more (suc k) n = ap (λ t. replicate t (pos 0)) {x = suc k + suc n} {y = suc (k + suc n)} (omega arith) ∙ ap (λ t. pos 0 ∷ t) (zeros_more k n)

at_end : (a b : List ℤ) (x y : ℤ) (j : ℕ) → j ≡ length a → (get_or (a ++ x ∷ b) j (pos 0) ≡ x) × (set (a ++ x ∷ b) j y ≡ a ++ y ∷ b)
at_end [] b x y j e = rw e (refl, refl)
at_end (d ∷ a) b x y j e = rw e (let (g, s) = at_end a b x y (length a) refl in (g, ap (λ t. d ∷ t) s))

pub partly_put : {string ds : List ℤ} {j : ℕ} {z : ℤ} {fs : List (ℕ × ℤ)} → Partly string ds ((j, z) ∷ fs) → Puts string ds j z fs
partly_put {string} {ds} {j} {z} {fs} p =
    let n = found_next (length p.under) j z fs p.others (sym p.coming_are) in
    let a = p.under ++ replicate n.under (pos 0) in
    let long : length a ≡ j = length-append p.under (replicate n.under (pos 0)) ∙ ap (λ t. length p.under + t) (length-replicate n.under (pos 0)) ∙ sym n.place_is in
    let count : length p.others ≡ n.under + suc (length n.others) =
    ap length n.string_is ∙ length-append (replicate n.under (pos 0)) (z ∷ n.others) ∙ ap (λ t. t + suc (length n.others)) (length-replicate n.under (pos 0)) in
    let rest = replicate (length n.others) (pos 0) in
    let buffer : ds ≡ a ++ pos 0 ∷ rest =
    p.buffer_is ∙ ap (λ t. p.under ++ replicate t (pos 0)) count ∙ ap (λ t. p.under ++ t) (zeros_more n.under (length n.others))
    ∙ sym (append_assoc p.under (replicate n.under (pos 0)) (pos 0 ∷ rest)) in
    let both = at_end a rest (pos 0) z j (sym long) in
    let one : length (a ++ z ∷ []) ≡ j + 1 = length-append a (z ∷ []) ∙ omega arith in
    let string_is : string ≡ a ++ z ∷ n.others =
    p.string_is ∙ ap (λ t. p.under ++ t) n.string_is ∙ sym (append_assoc p.under (replicate n.under (pos 0)) (z ∷ n.others)) in
    record {
      inside = omega (arith, ap length buffer, length-append a (pos 0 ∷ rest));
      clear = ap (λ t. get_or t j (pos 0)) buffer ∙ both.0;
      some = n.some;
      is = sym (ap (λ t. get_or t j (pos 0)) string_is ∙ (at_end a n.others z z j (sym long)).0);
      put =
          record {
            under = a ++ z ∷ [];
            others = n.others;
            string_is = string_is ∙ sym (append_assoc a (z ∷ []) n.others);
            buffer_is = ap (λ t. set t j z) buffer ∙ both.1 ∙ sym (append_assoc a (z ∷ []) rest);
            coming_are = n.others_are ∙ ap (λ t. found t n.others) (sym one);
          };
    }

mag_size : (z : ℤ) → mag z ≤ nat_abs z
mag_size (pos n) = omega arith
mag_size (negsuc n) = omega arith

-- and it is small: a byte keeps it
pub put_kept : {w m N : ℕ} (n : ℕ) {j : ℕ} {ds : List ℤ} {fs : List (ℕ × ℤ)} {z : ℤ} → Between w m → m < 128 → N < 2 ^ n → Partly (fractional_from w m (n + 1) N) ds ((j, z) ∷ fs) → to_z w8 (of_z w8 z) ≡ z
put_kept {w} {m} {N} n {j} {ds} {fs} {z} of few small p =
    let string = fractional_from w m (n + 1) N in
    let all = fractional_digits w m N n of (fractional_is w m N n of small) in
    let put = partly_put p in
    let size = in_size m z (rw (← put.is) at (all_at m string all j (omega (arith, put.inside, partly_length p)))) in
    to_z-of_z {w = w8} (record { sfits = omega (arith, mag_size z) })
