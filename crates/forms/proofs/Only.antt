-- wNAF is the only string of its kind, of any length up to zeros on top: two strings of D_w digits worth one number, in each of which any w consecutive places hold at most
-- one nonzero, have the same digit at every place. Assumes nothing.
use mathlib.Core.Path.{◌≡◌, refl, sym, ap, ◌∙◌}
use mathlib.Core.List.{List, [], ◌∷◌, ◌++◌}
use Prim.Native.Nat.{ℕ, zero, suc, ◌+◌, ◌≤◌}
use native.Mathlib.Omega.{arith}
use lib.Dec.{T}
use lib.IntN.{ℤ, pos, ◌+ℤ◌, ◌*ℤ◌}
use lib.ListN.{length, get_or, replicate, length-append, length-replicate}
use Rattle.meaning.specs.Digits.{worth, all_in, largest, Apart}
use Rattle.forms.proofs.Naf.{Digits, none, gap, some}
use Rattle.forms.proofs.DigitSets.{all_of}
use Rattle.forms.proofs.Built.{zeros_worth}
use Rattle.forms.proofs.Spacing.{apart_same}

-- ---- k zeros on top
abbrev raised : ℕ → List ℤ → List ℤ
raised k ds = ds ++ replicate k (pos 0)

-- change no digit
zero_at : (k j : ℕ) → get_or (replicate k (pos 0)) j (pos 0) ≡ pos 0
zero_at zero j = refl
zero_at (suc k) zero = refl
zero_at (suc k) (suc j) = zero_at k j

raised_at : (k : ℕ) (ds : List ℤ) (j : ℕ) → get_or (raised k ds) j (pos 0) ≡ get_or ds j (pos 0)
raised_at k [] j = zero_at k j
raised_at k (d ∷ ds) zero = refl
raised_at k (d ∷ ds) (suc j) = raised_at k ds j

-- and not the worth
raised_worth : (k : ℕ) (ds : List ℤ) → worth (raised k ds) ≡ worth ds
unfolding worth
raised_worth k [] = zeros_worth k
raised_worth k (d ∷ ds) = ap (λ x. d +ℤ pos 2 *ℤ x) (raised_worth k ds)

raised_digits : {w : ℕ} (k : ℕ) {ds : List ℤ} → Digits w ds → Digits w (raised k ds)
raised_digits zero none = none
raised_digits (suc k) none = gap (raised_digits k none)
raised_digits k (gap s) = gap (raised_digits k s)
raised_digits k (some D s) = some D (raised_digits k s)

raised_apart : {w : ℕ} (k : ℕ) {ds : List ℤ} → Apart w ds → Apart w (raised k ds)
raised_apart k {ds} a = record { one_of = λ i j l m n. raised_at k ds j ∙ a.one_of i j l m (λ e. n (raised_at k ds i ∙ e)) }

raised_length : (k : ℕ) (ds : List ℤ) → length (raised k ds) ≡ length ds + k
raised_length k ds = length-append ds (replicate k (pos 0)) ∙ ap (λ t. length ds + t) (length-replicate k (pos 0))

-- ---- one only
pub apart_only : {w : ℕ} → 2 ≤ w → (ds es : List ℤ) → T (all_in (largest w) ds) → T (all_in (largest w) es) → Apart w ds → Apart w es → worth ds ≡ worth es → (j : ℕ) → get_or ds j (pos 0) ≡ get_or es j (pos 0)
apart_only {w} two ds es s t a b e j =
    let k = length es in
    let m = length ds in
    let same = apart_same two (raised_digits k (all_of w (omega arith) ds s)) (raised_digits m (all_of w (omega arith) es t)) (raised_apart k a) (raised_apart m b)
    (omega (arith, raised_length k ds, raised_length m es)) (raised_worth k ds ∙ e ∙ sym (raised_worth m es)) in
    sym (raised_at k ds j) ∙ ap (λ x. get_or x j (pos 0)) same ∙ raised_at m es j
