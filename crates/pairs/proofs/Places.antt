-- n + 1 places of the joint sparse form hold two integers whose absolute values are at most 2 ^ n. Assumes nothing.
use mathlib.Core.Path.{◌≡◌, refl, sym, ap, ◌∙◌}
use mathlib.Core.List.{List}
use Prim.Native.Nat.{ℕ, zero, suc, ◌*◌, ◌^◌, ◌≤◌}
use native.Mathlib.Omega.{arith}
use lib.ListN.{length}
use lib.IntN.{ℤ, pos, negsuc, nat_abs, ◌+ℤ◌, ◌*ℤ◌, +ℤ_comm}
use Rattle.laws.proofs.Integers.{parts, ring, abs, abs_max}
use Rattle.laws.proofs.Residues.{residue}
use Rattle.pairs.specs.Columns.{D, Col, fst, snd, val, rule}
use Rattle.pairs.proofs.Form.{off_max, vals, mod8, dig, next, jsf, worth}
use Rattle.pairs.proofs.Regular.{Regular}
use Rattle.pairs.proofs.Exists.{cut, sparse}

-- what is left of a number is half as large
left_small : (m : ℕ) (a n : ℤ) (d : D) → a ≡ pos 2 *ℤ n +ℤ val d → nat_abs a ≤ 2 * m → nat_abs n ≤ m
left_small m a n d e h =
    let k = simp vals at (rw (parts a, parts n) at e) in
    abs_max n (omega (ring, abs a, off_max d))

-- one place holds a digit
digit_itself : (a b : ℤ) → nat_abs a ≤ 1 → val (dig a b) +ℤ pos 2 *ℤ pos 0 ≡ a
unfolding val dig rule mod8 residue
digit_itself (pos zero) b h = refl
digit_itself (pos (suc zero)) b h = refl
digit_itself (pos (suc (suc n))) b h = absurd (omega arith)
digit_itself (negsuc zero) b h = refl
digit_itself (negsuc (suc n)) b h = absurd (omega arith)

-- by the places, in one row, beside any number
holds : (n : ℕ) (a b : ℤ) → nat_abs a ≤ 2 ^ n → worth fst (jsf (suc n) a b) ≡ a
unfolding worth jsf
holds zero a b h = digit_itself a b h
holds (suc n) a b h =
    rw (holds n (next a b) (next b a) (left_small (2 ^ n) a (next a b) (dig a b) (cut a b) (omega arith)))
    (+ℤ_comm (val (dig a b)) (pos 2 *ℤ next a b) ∙ sym (cut a b))

-- the rows change places with the numbers
swap : (k : ℕ) (a b : ℤ) → worth snd (jsf k a b) ≡ worth fst (jsf k b a)
unfolding worth jsf
swap zero a b = refl
swap (suc k) a b = ap (λ t. val (dig b a) +ℤ pos 2 *ℤ t) (swap k (next a b) (next b a))

-- so in both
pub places : (n : ℕ) (a b : ℤ) → nat_abs a ≤ 2 ^ n → nat_abs b ≤ 2 ^ n → (worth fst (jsf (suc n) a b) ≡ a) × (worth snd (jsf (suc n) a b) ≡ b)
places n a b h k = (holds n a b h, swap (suc n) a b ∙ holds n b a k)

-- ---- the form on n + 1 places: a joint sparse string worth (a, b)
pub record Solinas (n : ℕ) (a b : ℤ) (js : List Col) : Type 0 where
  pub size : length js ≡ suc n
  pub top : worth fst js ≡ a
  pub low : worth snd js ≡ b
  pub legal : Regular js

-- the form's length
jsf_length : (k : ℕ) (a b : ℤ) → length (jsf k a b) ≡ k
unfolding jsf
jsf_length zero a b = refl
jsf_length (suc k) a b = ap suc (jsf_length k (next a b) (next b a))

-- the form is such a string
pub solinas : (n : ℕ) (a b : ℤ) → nat_abs a ≤ 2 ^ n → nat_abs b ≤ 2 ^ n → Solinas n a b (jsf (suc n) a b)
solinas n a b h k =
    record {
      size = jsf_length (suc n) a b;
      top = (places n a b h k).0;
      low = (places n a b h k).1;
      legal = sparse (suc n) a b;
    }
