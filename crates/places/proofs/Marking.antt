-- Marks as numbers: a word of them place by place from the top, their size, what a digit that is put does to them, and that the ones counted over all of them are
-- the weight. Assumes nothing.
use mathlib.Core.Path.{◌≡◌, refl, sym, ap, ◌∙◌}
use mathlib.Core.List.{List, [], ◌∷◌}
use mathlib.Core.Logic.{◌≢◌}
use Prim.Native.Nat.{ℕ, zero, suc, ◌+◌, ◌*◌, ◌-◌, ◌/◌, ◌%◌, ◌^◌, ◌<◌, ◌≤◌}
use native.Mathlib.Omega.{arith}
use native.Mathlib.Decide.{dec_lt, ℕ_discrete}
use native.Mathlib.Nat.{pow-succ', zero-add}
use lib.Count.{ones, ones_step, ones-ones, ones-le}
use lib.IntN.{ℤ, pos}
use lib.ListN.{length, get_or, set, take, drop, replicate, get_or-replicate, length-set, length-drop, drop_of_length-le}
use lib.Seq.{drop-drop, drop-set-lt, drop-set-add, get_or-drop, get_or-set_same, get_or-set_other, ext_get_or}
use lib.Pow.{pow_pos}
use Rattle.std.proofs.lemmas.List.Sums.{sum_by-cons}
use Rattle.meaning.specs.Digits.{nonzero, weight, listed}
use Rattle.meaning.specs.Recoding.{marked, marks_of, mark_words}
use Rattle.forms.proofs.Listed.{listed_length, listed_at}
use Rattle.forms.proofs.Strings.{nonzero_le, nonzero_none}
use Rattle.places.specs.Ones.{ones_of}

-- ---- a word
-- k bits
pub marked_lt : (k : ℕ) (ds : List ℤ) → marked k ds < 2 ^ k
unfolding marked
marked_lt zero ds = omega arith
marked_lt (suc k) [] = omega (arith, pow-succ' 2 k, pow_pos k)
marked_lt (suc k) (d ∷ ds) = omega (arith, pow-succ' 2 k, nonzero_le d, marked_lt k ds)

-- ---- the ones of a word are the weight of its places
pub marked_ones : (k : ℕ) (ds : List ℤ) → ones (marked k ds) ≡ weight (take k ds)
unfolding marked weight
marked_ones zero ds = ones-ones 0
marked_ones (suc k) [] = ones-ones 0
marked_ones (suc k) (d ∷ ds) =
    let m = marked k ds in
    ones_step (nonzero d + 2 * m) ∙ ap (λ t. t + ones ((nonzero d + 2 * m) / 2)) (low (nonzero d) m (nonzero_le d)) ∙ ap (λ t. nonzero d + ones t) (high (nonzero d) m (nonzero_le d))
    ∙ ap (λ t. nonzero d + t) (marked_ones k ds)
  where
    low : (b m : ℕ) → b ≤ 1 → (b + 2 * m) % 2 ≡ b
    low b m h = omega arith

    high : (b m : ℕ) → b ≤ 1 → (b + 2 * m) / 2 ≡ m
    high b m h = omega arith

-- ---- nine words
pub marks_length : (ds : List ℤ) → length (marks_of ds) ≡ mark_words
unfolding marks_of
marks_length ds = listed_length (λ q. marked 64 (drop (64 * q) ds)) 0 mark_words

pub marks_at : (ds : List ℤ) (q : ℕ) → q < mark_words → get_or (marks_of ds) q 0 ≡ marked 64 (drop (64 * q) ds)
unfolding marks_of
marks_at ds q h = listed_at (λ q. marked 64 (drop (64 * q) ds)) 0 mark_words q 0 h ∙ ap (λ t. marked 64 (drop (64 * t) ds)) (zero-add q)

-- each below 2 ^ 64
pub marks_lt : (ds : List ℤ) (q : ℕ) → q < mark_words → get_or (marks_of ds) q 0 < 2 ^ 64
marks_lt ds q h = rw (marks_at ds q h) (marked_lt 64 (drop (64 * q) ds))

-- no marks where all is 0
marked_zeros : (k p m : ℕ) → marked k (drop p (replicate m (pos 0))) ≡ 0
unfolding marked
marked_zeros zero p m = refl
marked_zeros (suc k) zero zero = refl
marked_zeros (suc k) zero (suc m) = omega (arith, nonzero_none {d = pos 0} refl, marked_zeros k zero m)
marked_zeros (suc k) (suc p) zero = refl
marked_zeros (suc k) (suc p) (suc m) = marked_zeros (suc k) p m

pub marks_zeros : (m : ℕ) → marks_of (replicate m (pos 0)) ≡ replicate mark_words 0
marks_zeros m =
    let e = marks_length (replicate m (pos 0)) in
    ext_get_or 0 (marks_of (replicate m (pos 0))) (replicate mark_words 0) e
    (λ q l. marks_at (replicate m (pos 0)) q (omega arith) ∙ marked_zeros 64 (64 * q) m ∙ sym (get_or-replicate mark_words q 0 0 (omega arith)))

-- ---- a digit is put at place p
-- among the places of a word: the mark of the digit that stood there is taken off, and that of the new one is added
marked_put : (k : ℕ) (ds : List ℤ) (p : ℕ) (d : ℤ) → p < length ds → p < k → marked k (set ds p d) + nonzero (get_or ds p (pos 0)) * 2 ^ p ≡ marked k ds + nonzero d * 2 ^ p
unfolding marked
marked_put zero ds p d h l = absurd (omega arith)
marked_put (suc k) [] p d h l = absurd (omega arith)
marked_put (suc k) (x ∷ ds) zero d h l = omega arith
marked_put (suc k) (x ∷ ds) (suc p) d h l = rw (pow-succ' 2 p) (omega (arith, marked_put k ds p d (omega arith) (omega arith)))

-- above them: nothing changes
marked_keep : (k : ℕ) (ds : List ℤ) (p : ℕ) (d : ℤ) → k ≤ p → marked k (set ds p d) ≡ marked k ds
unfolding marked
marked_keep zero ds p d h = refl
marked_keep (suc k) [] p d h = refl
marked_keep (suc k) (x ∷ ds) zero d h = absurd (omega arith)
marked_keep (suc k) (x ∷ ds) (suc p) d h = ap (λ t. nonzero x + 2 * t) (marked_keep k ds p d (omega arith))

module _ (ds : List ℤ) (p : ℕ) (d : ℤ) where
  -- word q, where place p is its place j
  word_at : (q j : ℕ) → p ≡ 64 * q + j → marked 64 (drop (64 * q) (set ds p d)) ≡ marked 64 (set (drop (64 * q) ds) j d)
  word_at q j e = ap (λ t. marked 64 (drop (64 * q) (set ds t d))) e ∙ ap (marked 64) (drop-set-add (64 * q) ds j d)

  -- the other words
  word_keep : (q : ℕ) → q ≢ p / 64 → marked 64 (drop (64 * q) (set ds p d)) ≡ marked 64 (drop (64 * q) ds)
  word_keep q n = go (dec_lt p (64 * q))
    where
      go : Dec (p < 64 * q) → marked 64 (drop (64 * q) (set ds p d)) ≡ marked 64 (drop (64 * q) ds)
      go (yes l) = ap (marked 64) (drop-set-lt (64 * q) ds p d l)
      go (no l) = word_at q (p - 64 * q) (omega arith) ∙ marked_keep 64 (drop (64 * q) ds) (p - 64 * q) d (omega arith)

  module _ (there : p < length ds) (most : p < 64 * mark_words) where
    -- the word that marks place p
    pub word_put : get_or (marks_of (set ds p d)) (p / 64) 0 + nonzero (get_or ds p (pos 0)) * 2 ^ (p % 64) ≡ get_or (marks_of ds) (p / 64) 0 + nonzero d * 2 ^ (p % 64)
    word_put =
        let q = p / 64 in
        let e : p ≡ 64 * q + p % 64 = omega arith in
        rw (marks_at (set ds p d) q (omega arith), marks_at ds q (omega arith), word_at q (p % 64) e, ap (λ t. get_or ds t (pos 0)) e, ← get_or-drop (64 * q) ds (p % 64) (pos 0))
        (marked_put 64 (drop (64 * q) ds) (p % 64) d (omega (arith, length-drop (64 * q) ds)) (omega arith))

    -- with that word the marks are those of the new string
    pub marks_put : (x : ℕ) → x ≡ get_or (marks_of (set ds p d)) (p / 64) 0 → set (marks_of ds) (p / 64) x ≡ marks_of (set ds p d)
    marks_put x e =
        let q = p / 64 in
        let m = marks_length ds in
        ext_get_or 0 (set (marks_of ds) q x) (marks_of (set ds p d)) (length-set (marks_of ds) q x ∙ m ∙ sym (marks_length (set ds p d))) (λ k l. go k (omega (arith, length-set (marks_of ds) q x)) (ℕ_discrete k q))
      where
        go : (k : ℕ) → k < mark_words → Dec (k ≡ p / 64) → get_or (set (marks_of ds) (p / 64) x) k 0 ≡ get_or (marks_of (set ds p d)) k 0
        go k l (yes f) = rw f (get_or-set_same (marks_of ds) (p / 64) x 0 (omega (arith, marks_length ds)) ∙ e)
        go k l (no n) = get_or-set_other (marks_of ds) (p / 64) k x 0 n ∙ marks_at ds k l ∙ sym (word_keep k n) ∙ sym (marks_at (set ds p d) k l)

-- ---- the ones counted over the words
weight_parts : (k : ℕ) (ds : List ℤ) → weight (take k ds) + weight (drop k ds) ≡ weight ds
unfolding weight
weight_parts zero ds = omega arith
weight_parts (suc k) [] = omega arith
weight_parts (suc k) (d ∷ ds) = omega (arith, weight_parts k ds)

words_weight : (ds : List ℤ) (i k : ℕ) → length ds ≤ 64 * (i + k) → ones_of (listed (λ q. marked 64 (drop (64 * q) ds)) i k) ≡ weight (drop (64 * i) ds)
unfolding listed weight
words_weight ds i zero h = sym (ap weight (drop_of_length-le ds {i = 64 * i} (omega arith)))
words_weight ds i (suc k) h =
    let X = drop (64 * i) ds in
    let more : 64 * suc i ≡ 64 * i + 64 = omega arith in
    let next : drop (64 * suc i) ds ≡ drop 64 X = ap (λ t. drop t ds) more ∙ sym (drop-drop 64 (64 * i) ds) in
    let first = sum_by-cons ones (marked 64 X) (listed (λ q. marked 64 (drop (64 * q) ds)) (suc i) k) in
    omega (arith, first, marked_ones 64 X, words_weight ds (suc i) k (omega arith), ap weight next, weight_parts 64 X)

-- are the weight
pub marks_weight : (ds : List ℤ) → length ds ≤ 64 * mark_words → ones_of (marks_of ds) ≡ weight ds
unfolding marks_of
marks_weight ds h = words_weight ds 0 mark_words h

-- 64 in each word at most
pub ones_most : (xs : List ℕ) → ((i : ℕ) → get_or xs i 0 < 2 ^ 64) → ones_of xs ≤ 64 * length xs
ones_most [] h = omega arith
ones_most (x ∷ xs) h = omega (arith, sum_by-cons ones x xs, ones-le 64 x (h 0), ones_most xs (λ i. h (suc i)))
