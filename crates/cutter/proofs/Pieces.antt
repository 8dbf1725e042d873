-- Pieces of an input: one after the other, a stretch without a line feed, the first line feed of a piece, and the lines of a whole input. Assumes nothing.
use mathlib.Core.Path.{◌≡◌, refl, sym, ap, ◌∙◌}
use mathlib.Core.Logic.{◌≢◌}
use mathlib.Core.Bool.{Bool, true, false, cond}
use mathlib.Core.List.{List, [], ◌∷◌, ◌++◌, append-nil}
use Prim.Native.Nat.{ℕ, zero, suc, ◌+◌, ◌<◌}
use native.Mathlib.Omega.{arith}
use native.Mathlib.Numerals.{add-one}
use native.Mathlib.Decide.{ℕ_discrete}
use lib.Dec.{eqb}
use lib.ListN.{length, get_or, take}
use lib.Seq.{append_snoc, take-suc}
use borrow.Author.Tests.{eq-eqb, ne_eqb}
use Rattle.meaning.specs.Lines.{line_feed, lines_of}
use Rattle.cutter.specs.Cuts.{ended, begun, last}

-- ---- a piece after another
pub ended_append : (p a b : List ℕ) → ended p (a ++ b) ≡ ended p a ++ ended (begun p a) b
unfolding ended begun
ended_append p [] b = refl
ended_append p (c ∷ a) b = go (eqb c line_feed) (ended_append [] a b) (ended_append (p ++ (c ∷ [])) a b)
  where
    go : (f : Bool) → ended [] (a ++ b) ≡ ended [] a ++ ended (begun [] a) b → ended (p ++ (c ∷ [])) (a ++ b) ≡ ended (p ++ (c ∷ [])) a ++ ended (begun (p ++ (c ∷ [])) a) b
        → cond f (p ∷ ended [] (a ++ b)) (ended (p ++ (c ∷ [])) (a ++ b))
        ≡ cond f (p ∷ ended [] a) (ended (p ++ (c ∷ [])) a) ++ ended (cond f (begun [] a) (begun (p ++ (c ∷ [])) a)) b
    go true e n = ap (λ ls. p ∷ ls) e
    go false e n = n

pub begun_append : (p a b : List ℕ) → begun p (a ++ b) ≡ begun (begun p a) b
unfolding begun
begun_append p [] b = refl
begun_append p (c ∷ a) b = go (eqb c line_feed) (begun_append [] a b) (begun_append (p ++ (c ∷ [])) a b)
  where
    go : (f : Bool) → begun [] (a ++ b) ≡ begun (begun [] a) b → begun (p ++ (c ∷ [])) (a ++ b) ≡ begun (begun (p ++ (c ∷ [])) a) b
        → cond f (begun [] (a ++ b)) (begun (p ++ (c ∷ [])) (a ++ b)) ≡ begun (cond f (begun [] a) (begun (p ++ (c ∷ [])) a)) b
    go true e n = e
    go false e n = n

-- ---- a stretch in which no character is a line feed
abbrev pub plain : List ℕ → Type 0
plain [] = Unit {0}
plain (c ∷ cs) = (c ≢ line_feed) × plain cs

pub plain_ended : (p cs : List ℕ) → plain cs → ended p cs ≡ []
unfolding ended
plain_ended p [] t = refl
plain_ended p (c ∷ cs) (n, t) = rw (ne_eqb c line_feed n) (plain_ended (p ++ (c ∷ [])) cs t)

pub plain_begun : (p cs : List ℕ) → plain cs → begun p cs ≡ p ++ cs
unfolding begun
plain_begun p [] t = sym (append-nil p)
plain_begun p (c ∷ cs) (n, t) = rw (ne_eqb c line_feed n) (plain_begun (p ++ (c ∷ [])) cs t ∙ append_snoc p c cs)

-- and a line feed after it
module _ (p cs : List ℕ) (t : plain cs) where
  pub feed_ended : ended p (cs ++ (line_feed ∷ [])) ≡ (p ++ cs) ∷ []
  unfolding ended
  feed_ended = ended_append p cs (line_feed ∷ []) ∙ rw (plain_ended p cs t, plain_begun p cs t)

  pub feed_begun : begun p (cs ++ (line_feed ∷ [])) ≡ []
  unfolding begun
  feed_begun = begun_append p cs (line_feed ∷ [])

-- ---- the first line feed of a piece, or the end of one that has none
-- what stands before it
pub before_plain : (cs : List ℕ) (end : ℕ) → ((k : ℕ) → k < end → get_or cs k 0 ≢ line_feed) → plain (take end cs)
before_plain [] zero n = tt
before_plain [] (suc end) n = tt
before_plain (c ∷ cs) zero n = tt
before_plain (c ∷ cs) (suc end) n = (n 0 (omega arith), before_plain cs end (λ k h. n (suc k) (omega arith)))

pub none_plain : (cs : List ℕ) → ((k : ℕ) → k < length cs → get_or cs k 0 ≢ line_feed) → plain cs
none_plain [] n = tt
none_plain (c ∷ cs) n = (n 0 (omega arith), none_plain cs (λ k h. n (suc k) (omega arith)))

pub through_feed : (cs : List ℕ) (end : ℕ) → end < length cs → get_or cs end 0 ≡ line_feed → take (end + 1) cs ≡ take end cs ++ (line_feed ∷ [])
through_feed cs end h e =
    ap (λ n. take n cs) (add-one end) ∙ take-suc cs end 0 h ∙ ap (λ c. take end cs ++ (c ∷ [])) e

-- ---- the lines of a whole input
plain_more : (p : List ℕ) (c : ℕ) → plain p → c ≢ line_feed → plain (p ++ (c ∷ []))
plain_more [] c t n = (n, tt)
plain_more (d ∷ p) c (m, t) n = (m, plain_more p c t n)

-- a line that has not ended, and one that ends
lines_last : (p : List ℕ) → plain p → lines_of p ≡ last p
unfolding lines_of
lines_last [] t = refl
lines_last (c ∷ []) (n, t) = rw (ne_eqb c line_feed n)
lines_last (c ∷ d ∷ p) (n, t) = rw (ne_eqb c line_feed n, lines_last (d ∷ p) t)

pub lines_first : (p cs : List ℕ) → plain p → lines_of (p ++ (line_feed ∷ cs)) ≡ p ∷ lines_of cs
unfolding lines_of
lines_first [] cs t = refl
lines_first (c ∷ p) cs (n, t) = rw (ne_eqb c line_feed n, lines_first p cs t)

lines_from : (p cs : List ℕ) → plain p → lines_of (p ++ cs) ≡ ended p cs ++ last (begun p cs)
unfolding ended begun
lines_from p [] t = ap lines_of (append-nil p) ∙ lines_last p t
lines_from p (c ∷ cs) t = go (ℕ_discrete c line_feed) (lines_from [] cs tt) (λ n. lines_from (p ++ (c ∷ [])) cs (plain_more p c t n))
  where
    go : Dec (c ≡ line_feed) → lines_of cs ≡ ended [] cs ++ last (begun [] cs)
        → (c ≢ line_feed → lines_of (p ++ (c ∷ []) ++ cs) ≡ ended (p ++ (c ∷ [])) cs ++ last (begun (p ++ (c ∷ [])) cs))
        → lines_of (p ++ (c ∷ cs)) ≡ ended p (c ∷ cs) ++ last (begun p (c ∷ cs))
    go (yes e) a b = rw (eq-eqb c line_feed e) (ap (λ x. lines_of (p ++ (x ∷ cs))) e ∙ lines_first p cs t ∙ ap (λ ls. p ∷ ls) a)
    go (no n) a b = rw (ne_eqb c line_feed n) (ap lines_of (sym (append_snoc p c cs)) ∙ b n)

-- they are those that end in it, and what it ends in
pub lines_are : (input : List ℕ) → lines_of input ≡ ended [] input ++ last (begun [] input)
lines_are input = lines_from [] input tt
