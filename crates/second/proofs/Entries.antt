-- The second chip's entries: the multiples, and their negatives stored after them; each is a residue. Assumes nothing.
use mathlib.Core.Path.{◌≡◌, refl, sym, ap, ◌∙◌, subst}
use mathlib.Core.List.{List, ◌∷◌, ◌++◌}
use Prim.Native.Nat.{ℕ, zero, suc, ◌+◌, ◌*◌, ◌-◌, ◌%◌, ◌<◌, ◌≤◌}
use native.Mathlib.Nat.{mod-lt, add-zero, add_assoc}
use native.Mathlib.Omega.{arith}
use lib.Dec.{ltb, lt→ltb, ltb→lt, not_T}
use lib.ListN.{length, get_or, set, take, drop}
use lib.Seq.{take-append_seam, drop-append-add, drop-drop, get_or-take}
use Rattle.laws.proofs.Choices.{either, yes_is, no_is}
use Rattle.laws.proofs.Stores.{Filled, fill_more}
use Rattle.forms.proofs.Listed.{listed_length, listed_first}
use Rattle.meaning.specs.Digits.{listed}
use Rattle.meaning.specs.Walks.{multiple}
use Rattle.meaning.specs.SecondChip.{second_multiple}
use Rattle.run.proofs.Multiples.{stored}

-- ---- lists of a function's values
listed_take : {A : Type 0} (f : ℕ → A) (i k n : ℕ) → k ≤ n → take k (listed f i n) ≡ listed f i k
unfolding listed
listed_take f i zero n l = refl
listed_take f i (suc k) zero l = absurd (omega arith)
listed_take f i (suc k) (suc n) l = ap (λ t. f i ∷ t) (listed_take f (suc i) k n (omega arith))

listed_same : {A : Type 0} (f g : ℕ → A) (i n : ℕ) → ((j : ℕ) → j < i + n → f j ≡ g j) → listed f i n ≡ listed g i n
unfolding listed
listed_same f g i zero h = refl
listed_same f g i (suc n) h = rw (h i (omega arith)) (ap (λ t. g i ∷ t) (listed_same f g (suc i) n (λ j l. h j (omega arith))))

-- ---- `count` multiples and their negatives
module _ (count m g : ℕ) where
  abbrev entry : ℕ → ℕ
  entry = second_multiple count m g

  -- the first are the multiples, and the negative of each stands `count` further on
  low : (e : ℕ) → e < count → entry e ≡ stored m g e
  low e l = yes_is (ltb e count) (stored m g e) _ (lt→ltb e count l)

  high : (e : ℕ) → entry (count + e) ≡ (m - stored m g e) % m
  high e =
      no_is (ltb (count + e) count) (stored m g (count + e)) ((m - stored m g (count + e - count)) % m) (not_T (ltb (count + e) count) (λ h. omega (arith, ltb→lt (count + e) count h)))
      ∙ ap (λ k. (m - stored m g k) % m) back
    where
      back : count + e - count ≡ e
      back = omega arith

  pub entry_lt : 0 < m → (e : ℕ) → entry e < m
  entry_lt some e = either (λ v. v < m) (ltb e count) (λ t. mod-lt (multiple e * g) some) (λ t. mod-lt (m - stored m g (e - count)) some)

  -- all of them, in front of what was lent
  abbrev pub all : List ℕ
  all = listed entry 0 (2 * count)

  pub all_length : length all ≡ 2 * count
  all_length = listed_length entry 0 (2 * count)

  module _ (lent d : List ℕ) (is : d ≡ listed (stored m g) 0 count ++ drop count lent) (room : 2 * count ≤ length lent) where
    several : List ℕ
    several = listed (stored m g) 0 count

    -- the multiples are stored
    pub fills_first : Filled all d d (count + 0)
    unfolding several
    fills_first =
        subst (Filled all d d) (sym (add-zero count))
        (record {
          within = omega (arith, all_length);
          same_length = refl;
          fore =
              ap (take count) is ∙ ap (λ k. take k (several ++ drop count lent)) (sym (listed_length (stored m g) 0 count)) ∙ take-append_seam several (drop count lent)
              ∙ sym (listed_take entry 0 count (2 * count) (omega arith) ∙ listed_same entry (stored m g) 0 count (λ j l. low j (omega arith)));
          aft = refl;
        })

    -- what stands past the entries stands
    pub stored_rest : drop (2 * count) d ≡ drop (2 * count) lent
    unfolding several
    stored_rest =
        ap (drop (2 * count)) is ∙ ap (λ k. drop k (several ++ drop count lent)) past ∙ drop-append-add several (drop count lent) count ∙ drop-drop count count lent
        ∙ ap (λ k. drop k lent) both
      where
        past : 2 * count ≡ length several + count
        past = omega (arith, listed_length (stored m g) 0 count)

        both : count + count ≡ 2 * count
        both = omega arith

  -- a multiple that was stored is read
  pub reads : {d₀ d : List ℕ} (e : ℕ) → Filled all d₀ d (count + e) → e < count → get_or d e 0 ≡ stored m g e
  reads {d₀} {d} e f l =
      sym (get_or-take (count + e) d e 0 (omega arith)) ∙ ap (λ xs. get_or xs e 0) f.fore ∙ get_or-take (count + e) all e 0 (omega arith)
      ∙ listed_first entry (2 * count) e 0 (omega arith) ∙ low e l

  -- one negative more
  pub fills_more : {d₀ : List ℕ} (d : List ℕ) (e : ℕ) {x : ℕ} → Filled all d₀ d (count + e) → e < count → count + e < length d → x ≡ (0 + (m - get_or d e 0)) % m
      → Filled all d₀ (set d (count + e) x) (count + (e + 1))
  fills_more {d₀} d e {x} f l n p =
      let none : 0 + (m - get_or d e 0) ≡ m - stored m g e = omega (arith, reads e f l) in
      subst (Filled all d₀ (set d (count + e) x)) (add_assoc count e 1)
      (fill_more all d₀ d (count + e) x 0 f (omega (arith, all_length)) n
      (p ∙ ap (λ a. a % m) none ∙ sym (high e) ∙ sym (listed_first entry (2 * count) (count + e) 0 (omega arith))))
