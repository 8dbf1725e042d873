-- What is kept of a line: of a new one nothing, and of one that goes on as many characters more as there is room for; and what a cut keeps. Assumes nothing.
use mathlib.Core.Logic.{◌≢◌}
use mathlib.Core.Path.{◌≡◌, sym, ap, ◌∙◌}
use mathlib.Core.List.{List, [], ◌∷◌, ◌++◌, append-nil}
use Prim.Native.Nat.{ℕ, ◌+◌, ◌-◌, ◌<◌, ◌≤◌, min}
use native.Mathlib.Omega.{arith}
use native.Mathlib.Decide.{dec_le}
use lib.ListN.{length, get_or, take, length-take, length-append}
use lib.Seq.{take_all, take-nil, take-append-le, take-append-add}
use Rattle.meaning.specs.Lines.{line_feed}
use Rattle.cutter.specs.Cuts.{ended, begun, Keeps, Open, Closed}
use Rattle.cutter.proofs.Pieces.{plain, plain_ended, plain_begun, feed_ended, feed_begun, before_plain, through_feed}

-- the first elements of two lists
take_both : (n : ℕ) (a b : List ℕ) → take n (a ++ b) ≡ take n a ++ take (n - length a) b
take_both n a b = go (dec_le (length a) n)
  where
    go : Dec (length a ≤ n) → take n (a ++ b) ≡ take n a ++ take (n - length a) b
    go (yes h) =
        let e : length a + (n - length a) ≡ n = omega arith in
        ap (λ k. take k (a ++ b)) (sym e) ∙ take-append-add a b (n - length a) ∙ ap (λ l. l ++ take (n - length a) b) (sym (take_all n a h))
    go (no h) =
        let e : n - length a ≡ 0 = omega arith in
        rw e (take-append-le n a b (omega arith) ∙ sym (append-nil (take n a)))

-- no more than there are
take_most : (n : ℕ) (a : List ℕ) → take (min (length a) n) a ≡ take n a
take_most n a = go (dec_le (length a) n)
  where
    go : Dec (length a ≤ n) → take (min (length a) n) a ≡ take n a
    go (yes h) = let e : min (length a) n ≡ length a = omega arith in take_all (min (length a) n) a (omega arith) ∙ sym (take_all n a h)
    go (no h) = let e : min (length a) n ≡ n = omega arith in ap (λ k. take k a) e

pub keeps_none : (line : List ℕ) → Keeps [] line 0
keeps_none line = record { count_is = sym (ap length (take-nil (length line))); front_is = sym (take-nil (length line)) }

-- as many characters as there is room for stand behind those that were kept
module _ (characters line : List ℕ) (kept count : ℕ) (copy : List ℕ) (few : count ≡ min (length characters) (length line - kept))
    (copied : take (kept + count) copy ≡ take kept line ++ take count characters) where
  pub keeps_more : length copy ≡ length line → (p : List ℕ) → Keeps p line kept → Keeps (p ++ characters) copy (kept + count)
  keeps_more same p k =
      let room : length line - length p ≡ length line - kept = omega (arith, k.count_is, length-take (length line) p) in
      let all : take (length line) (p ++ characters) ≡ take kept line ++ take count characters =
      take_both (length line) p characters
      ∙ ap (λ n. take (length line) p ++ take n characters) room
      ∙ ap (λ l. l ++ take (length line - kept) characters) (sym k.front_is)
      ∙ ap (λ l. take kept line ++ l) (sym (take_most (length line - kept) characters) ∙ ap (λ n. take n characters) (sym few)) in
      record {
        count_is = omega (arith, same, k.count_is, length-take (length line) p, length-take (length copy) (p ++ characters), length-append p characters);
        front_is = copied ∙ sym all ∙ ap (λ n. take n (p ++ characters)) (sym same);
      }

-- ---- a piece
module _ (piece : List ℕ) where
  -- no character is a line feed: all of it is kept
  pub cut_open : plain piece → (p : List ℕ) {line : List ℕ} {kept : ℕ} → Keeps (p ++ piece) line kept → Open p piece line kept
  cut_open t p k = record { none = plain_ended p piece t; keeps = rw (plain_begun p piece t) k }

  -- the first line feed stands at its end: what comes before it is kept
  pub cut_closed : (end : ℕ) → ((k : ℕ) → k < end → get_or piece k 0 ≢ line_feed) → end < length piece → get_or piece end 0 ≡ line_feed
      → (p : List ℕ) {line : List ℕ} {kept : ℕ} → Keeps (p ++ take end piece) line kept → Closed p (take (end + 1) piece) line kept
  cut_closed end before h e p k =
      let stretch = before_plain piece end before in
      let text : take (end + 1) piece ≡ take end piece ++ (line_feed ∷ []) = through_feed piece end h e in
      record {
        whole = p ++ take end piece;
        one = ap (ended p) text ∙ feed_ended p (take end piece) stretch;
        rest = ap (begun p) text ∙ feed_begun p (take end piece) stretch;
        keeps = k;
      }
