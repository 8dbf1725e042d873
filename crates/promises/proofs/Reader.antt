-- The promises of the reader: two outcomes of `new`, of `next` and of `read_at` that satisfy them are equal; and a reader that is right in its first window and zero after,
-- one that is done at once and one that is never done cannot satisfy them, over `new` and a chain of `next` as over `read_at`. Assumes nothing.
use mathlib.Core.Path.{◌≡◌, refl, sym, ap, subst, ◌∙◌}
use mathlib.Core.Logic.{◌≢◌, ⊎_elim}
use mathlib.Core.List.{List, [], ◌∷◌}
use Prim.Native.Nat.{ℕ, suc, ◌+◌, ◌≤◌}
use native.Mathlib.Omega.{arith}
use lib.Count.{count_trailing_zeros}
use lib.Dec.{lit≤}
use lib.IntN.{ℤ, nat_abs}
use denote.Ref.{Bor}
use Rattle.std.specs.Prelude.{Option, Some, None}
use Rattle.meaning.specs.Scalars.{Order, highest_first, number}
use Rattle.meaning.specs.Windows.{window_worth, shrink}
use Rattle.meaning.specs.Wmof.{wmof_under, wmof}
use Rattle.meaning.specs.Reading.{Holds, reader_rules, sequence, Read, digit, done, read_at}
use Rattle.forms.proofs.Refusals.{first_only, first_none}
use Rattle.reader.specs.declared.Reader.{Reader}
use Rattle.reader.specs.declared.Reading.{Reading}
use Rattle.reader.specs.States.{starting, after}
use Rattle.reader.specs.Calls.{read_of, Made, Called, Answered}
use Rattle.reader.proofs.Calls.{answer_at}

-- one number held
pub same_number : (w : ℕ) (s : List ℕ) (r r' : ℕ) → Holds w s r → Holds w s r' → r ≡ r'
same_number w s r r' a b = (first_only (reader_rules w s) a b).0

-- what a call gives is told by document 01's
read_same : (a b : Option ℤ) → read_of a ≡ read_of b → a ≡ b
read_same (Some d) (Some e) h = cc
read_same (Some d) None h = let z : ◌≡◌ {A = ℕ} 0 1 = cc in absurd (omega arith)
read_same None (Some e) h = let z : ◌≡◌ {A = ℕ} 0 1 = cc in absurd (omega arith)
read_same None None h = refl

-- `read_at`
pub read_at_determined : (w : ℕ) (order : Order) (s : List ℕ) (k : ℕ) (a b : Reading) → Answered w order s k a → Answered w order s k b → a ≡ b
read_at_determined w order s k a b A B =
    let r = same_number w s a.refusal b.refusal A.holds B.holds in
    let n = read_same a.next b.next (A.gives ∙ ap (λ x. read_at (sequence x w order s) k) r ∙ sym B.gives) in
    ap (λ x. record { refusal = x; next = a.next }) r ∙ ap (λ x. record { refusal = b.refusal; next = x }) n

-- `new`
pub new_determined : (w : ℕ) (order : Order) (s : Bor (List ℕ)) (a b : Reader) → Made w order s a → Made w order s b → a ≡ b
new_determined w order s a b A B =
    let r = same_number w s.now a.state.refusal b.state.refusal A.state_is.holds B.state_is.holds in
    let q = A.state_is.state_is ∙ ap (λ x. after s.now (starting x w order s.now) 0) r ∙ sym B.state_is.state_is in
    ap (λ x. record { scalar = x; state = a.state }) (A.scalar_is ∙ sym B.scalar_is) ∙ ap (λ x. record { scalar = b.scalar; state = x }) q

-- `next`, from any reader
pub next_determined : (before a b : Reader) (m n : Option ℤ) → Called before a m → Called before b n → (a ≡ b) × (m ≡ n)
next_determined before a b m n A B = (A.after_is ∙ sym B.after_is, A.next_is ∙ sym B.next_is)

-- ---- ruled out
-- the size of the digit that is given
pub size : Read → ℕ
size (digit d) = nat_abs d
size done = 0

-- 13 at width 2 is accepted, and read 0 0 0 0 1 0 0 -1 -1
holds_none : Holds 2 (13 ∷ []) 0
holds_none = first_none (reader_rules 2 (13 ∷ [])) (⊎_elim (λ l. omega arith) (λ l. omega arith), ((λ h. omega arith), tt))

-- answers that are its sequence, call by call
module _ (answer : ℕ → Read) (given : (k : ℕ) → answer k ≡ read_at (sequence 0 2 highest_first (13 ∷ [])) k) where
  at_four : size (answer 4) ≡ 1
  unfolding size read_at number wmof wmof_under window_worth shrink count_trailing_zeros
  at_four = ap size (given 4)

  at_seven : size (answer 7) ≡ 1
  unfolding size read_at number wmof wmof_under window_worth shrink count_trailing_zeros
  at_seven = ap size (given 7)

  -- right in its first window and zero after: w calls after a nonzero digit nothing but zeros is given
  not_fading : ((j k : ℕ) → j + 2 ≤ k → size (answer j) ≢ 0 → size (answer k) ≡ 0) → ⊥
  not_fading f = omega (arith, at_seven, f 4 7 (lit≤ tt) (λ z. omega (arith, at_four)))

  -- done at once
  not_done : ((k : ℕ) → answer k ≡ done) → ⊥
  unfolding size
  not_done f = omega (arith, at_four, ap size (f 4))

  -- never done
  not_endless : ((k : ℕ) → answer k ≢ done) → ⊥
  unfolding read_at number wmof wmof_under window_worth shrink count_trailing_zeros
  not_endless f = f 9 (given 9)

-- ---- `new` and a chain of `next`: a reader made from every width and scalar, what `next` makes of it call by call, and what it gives
pub record Readers : Type 1 where
  pub reader : (w : ℕ) (order : Order) (s : Bor (List ℕ)) (k : ℕ) → Reader
  pub answer : (w : ℕ) (order : Order) (s : Bor (List ℕ)) (k : ℕ) → Option ℤ
  pub made : (w : ℕ) (order : Order) (s : Bor (List ℕ)) → Made w order s (reader w order s 0)
  pub called : (w : ℕ) (order : Order) (s : Bor (List ℕ)) (k : ℕ) → Called (reader w order s k) (reader w order s (suc k)) (answer w order s k)

module _ (c : Readers) (s : Bor (List ℕ)) (thirteen : s.now ≡ 13 ∷ []) where
  abbrev answers : ℕ → Read
  answers k = read_of (c.answer 2 highest_first s k)

  chained : (k : ℕ) → answers k ≡ read_at (sequence 0 2 highest_first (13 ∷ [])) k
  chained k =
      let held = same_number 2 (13 ∷ []) (c.reader 2 highest_first s 0).state.refusal 0 (subst (λ x. Holds 2 x (c.reader 2 highest_first s 0).state.refusal) thirteen (c.made 2 highest_first s).state_is.holds) holds_none in
      answer_at 2 highest_first s (c.reader 2 highest_first s) (c.answer 2 highest_first s) (c.made 2 highest_first s) (c.called 2 highest_first s) k ∙ ap (λ r. read_at (sequence r 2 highest_first s.now) k) held ∙ ap (λ x. read_at (sequence 0 2 highest_first x) k) thirteen

  pub next_not_fading : ((w : ℕ) (order : Order) (r : Bor (List ℕ)) (j k : ℕ) → j + w ≤ k → size (read_of (c.answer w order r j)) ≢ 0 → size (read_of (c.answer w order r k)) ≡ 0) → ⊥
  next_not_fading f = not_fading answers chained (f 2 highest_first s)

  pub next_not_done : ((w : ℕ) (order : Order) (r : Bor (List ℕ)) (k : ℕ) → c.answer w order r k ≡ None) → ⊥
  next_not_done f = not_done answers chained (λ k. ap read_of (f 2 highest_first s k))

  pub next_not_endless : ((w : ℕ) (order : Order) (r : Bor (List ℕ)) (k : ℕ) → c.answer w order r k ≢ None) → ⊥
  next_not_endless f = not_endless answers chained (λ k e. f 2 highest_first s k (read_same (c.answer 2 highest_first s k) None e))

-- ---- `read_at`: what it gives at each number of calls, for every width and scalar
pub record Readings : Type 0 where
  pub read : (w : ℕ) (order : Order) (s : List ℕ) (k : ℕ) → Reading
  pub keeps : (w : ℕ) (order : Order) (s : List ℕ) (k : ℕ) → Answered w order s k (read w order s k)

module _ (c : Readings) where
  abbrev reads : ℕ → Read
  reads k = read_of (c.read 2 highest_first (13 ∷ []) k).next

  given_at : (k : ℕ) → reads k ≡ read_at (sequence 0 2 highest_first (13 ∷ [])) k
  given_at k =
      let K = c.keeps 2 highest_first (13 ∷ []) k in
      K.gives ∙ ap (λ x. read_at (sequence x 2 highest_first (13 ∷ [])) k) (same_number 2 (13 ∷ []) (c.read 2 highest_first (13 ∷ []) k).refusal 0 K.holds holds_none)

  pub reader_not_fading : ((w : ℕ) (order : Order) (s : List ℕ) (j k : ℕ) → j + w ≤ k → size (read_of (c.read w order s j).next) ≢ 0 → size (read_of (c.read w order s k).next) ≡ 0) → ⊥
  reader_not_fading f = not_fading reads given_at (f 2 highest_first (13 ∷ []))

  pub reader_not_done : ((w : ℕ) (order : Order) (s : List ℕ) (k : ℕ) → (c.read w order s k).next ≡ None) → ⊥
  reader_not_done f = not_done reads given_at (λ k. ap read_of (f 2 highest_first (13 ∷ []) k))
