-- Lines of both versions: which are read without refusal, and how long they are; writing then reading gives the string back; and a line that is read without refusal is, in capitals, the one that is
-- written for its string. Assumes nothing.
use mathlib.Core.Path.{◌≡◌, refl, sym, ap, subst, ◌∙◌}
use mathlib.Core.Logic.{◌≢◌, inl, inr}
use mathlib.Core.Bool.{Bool, true, false, cond, not, ◌&&◌, ◌||◌}
use mathlib.Core.List.{List, [], ◌∷◌, ◌++◌}
use Prim.Native.Nat.{ℕ, ◌+◌, ◌*◌, ◌-◌, ◌%◌, ◌<◌, ◌≤◌}
use native.Mathlib.Decide.{ℕ_discrete}
use native.Mathlib.Omega.{arith}
use lib.Dec.{T, leb, ltb, eqb}
use lib.IntN.{ℤ}
use lib.ListN.{length, get_or, drop}
use borrow.Author.Tests.{le-ltb, eq-eqb, ne_eqb, ltb-false, leb-true, eqb-true, not-false}
use Rattle.laws.proofs.Choices.{true_false, not_below}
use Rattle.meaning.specs.Digits.{most_places, weight, top}
use Rattle.meaning.specs.Refusals.{First, granted, kept}
use Rattle.meaning.specs.Hexadecimal.{between, in_pairs, bytes_of, written, in_capitals}
use Rattle.meaning.specs.Frames.{
  all_signed,
  digits_of,
  entries_from,
  Version,
  version1,
  version2,
  opening,
  frame_bytes,
  line_of,
  is_sparse,
  weight_in,
  top_in,
  places_in,
  digits_in,
  stated,
  lacking,
  unreadable,
  in_order,
  read_rules,
  Parsed,
  Read,
}
use Rattle.forms.proofs.Strings.{weight_le}
use Rattle.forms.proofs.Refusals.{first_only, first_none}
use Rattle.hexadecimal.proofs.Characters.{bytes_count}
use Rattle.hexadecimal.proofs.Writing.{written_length}
use Rattle.hexadecimal.proofs.Capitals.{both_true, bytes_written, pairs_written, pairs_bytes, pairs_capitals, capitals_length}
use Rattle.layout.specs.Wholes.{line_length, WholeFrame}
use Rattle.layout.proofs.Entries.{digits_length, entries_count, entry_bytes_length}
use Rattle.layout.proofs.Bytes.{Fit, fit_of, unfit_not, Hold, frame_all, frame_hold, sparse_opens, plain_places, plain_digits, plain_order, digits_places, sparse_again, plain_again}

-- ---- tests
not_T_false : (b : Bool) → (T b → ⊥) → b ≡ false
not_T_false true n = absurd (n tt)
not_T_false false n = refl

pub no_flag : {b : Bool} → b ≡ false → T b → ⊥
no_flag e t = subst T e t

either_false : (p q : Bool) → p || q ≡ false → (p ≡ false) × (q ≡ false)
either_false true q e = absurd (true_false e)
either_false false q e = (refl, e)

-- ---- lines that are read without refusal
-- no rule applies
pub record Good (line : List ℕ) (places : ℕ) : Type 0 where
  pub readable : unreadable line ≡ false
  pub short : places_in (bytes_of line) ≤ most_places
  pub fit : Fit (bytes_of line)
  pub room : places_in (bytes_of line) ≤ places

module _ (line : List ℕ) (places : ℕ) where
  pub good_none : Good line places → First (read_rules line places) 0 0
  good_none g =
      first_none (read_rules line places)
      (no_flag g.readable, ((λ h. omega (arith, g.short)), (no_flag (unfit_not (bytes_of line) g.fit), ((λ h. omega (arith, g.room)), tt))))

  pub none_good : (r : ℕ) → First (read_rules line places) r 0 → r ≡ 0 → Good line places
  none_good r (inl (e, _)) z = absurd (omega arith)
  none_good r (inr (_, inl (e, _))) z = absurd (omega arith)
  none_good r (inr (_, inr (_, inl (e, _)))) z = absurd (omega arith)
  none_good r (inr (_, inr (_, inr (_, inl (e, _))))) z = absurd (omega arith)
  none_good r (inr (u, inr (m, inr (k, inr (l, _))))) z =
      record {
        readable = not_T_false _ u;
        short = not_below m;
        fit = fit_of (bytes_of line) (not_T_false _ k);
        room = not_below l;
      }

-- ---- refused lines
-- a refused line is one byte, which is the number that it states
record States (line : List ℕ) : Type 0 where
  pub pairs : in_pairs line ≡ true
  pub one : length line ≡ 2
  pub most : stated line ≤ 16
  pub byte_is : stated line ≡ get_or (bytes_of line) 0 0

states : (line : List ℕ) → stated line ≢ 0 → States line
unfolding stated
states line n = go _ refl
  where
    b : ℕ
    b = get_or (bytes_of line) 0 0

    test : Bool
    test = in_pairs line && (eqb (length line) 2 && (between 1 16 b && not (eqb b 6)))

    go : (t : Bool) → test ≡ t → States line
    go false e = absurd (n (rw e))
    go true e =
        let is : stated line ≡ b = rw e in
        let x = both_true (in_pairs line) (eqb (length line) 2 && (between 1 16 b && not (eqb b 6))) e in
        let y = both_true (eqb (length line) 2) (between 1 16 b && not (eqb b 6)) x.1 in
        let z = both_true (between 1 16 b) (not (eqb b 6)) y.1 in
        let w = both_true (leb 1 b) (leb b 16) z.0 in
        let high : b ≤ 16 = leb-true b 16 w.1 in
        record { pairs = x.0; one = eqb-true (length line) 2 y.0; most = rw is high; byte_is = is }

stated_bytes : (line : List ℕ) → States line → bytes_of line ≡ stated line ∷ []
stated_bytes line S = one (bytes_of line) (omega (arith, bytes_count line, S.one)) ∙ ap (λ b. b ∷ []) (sym S.byte_is)
  where
    one : (bs : List ℕ) → length bs ≡ 1 → bs ≡ get_or bs 0 0 ∷ []
    one [] e = absurd (omega arith)
    one (b ∷ []) e = refl
    one (b ∷ c ∷ bs) e = absurd (omega arith)

one_plain : (b : ℕ) → b ≤ 16 → is_sparse (b ∷ []) ≡ false
unfolding is_sparse
one_plain b h = ne_eqb b opening (λ e. omega arith)

-- it has no places, 0 as weight and top, and is read without refusal
pub record Bare (line : List ℕ) : Type 0 where
  pub no_weight : weight_in (bytes_of line) ≡ 0
  pub no_top : top_in (bytes_of line) ≡ 0
  pub no_places : places_in (bytes_of line) ≡ 0
  pub no_digits : digits_in (bytes_of line) ≡ []
  pub good : (places : ℕ) → Good line places

pub stated_bare : (line : List ℕ) → stated line ≢ 0 → Bare line
unfolding digits_of weight top unreadable
stated_bare line n =
    let S = states line n in
    let b = stated line in
    let e : bytes_of line ≡ b ∷ [] = stated_bytes line S in
    let p : is_sparse (b ∷ []) ≡ false = one_plain b S.most in
    let places : places_in (bytes_of line) ≡ 0 = ap places_in e ∙ plain_places (b ∷ []) p in
    let digits : digits_in (bytes_of line) ≡ [] = ap digits_in e ∙ plain_digits (b ∷ []) p in
    let fits : Fit (bytes_of line) =
    record {
      ordered = ap in_order e ∙ plain_order (b ∷ []) p;
      weight_fits = ap weight_in e ∙ ap weight (sym digits);
      top_fits = ap top_in e ∙ ap top (sym digits);
    } in
    record {
      no_weight = ap weight_in e;
      no_top = ap top_in e;
      no_places = places;
      no_digits = digits;
      good = λ room. record { readable = rw (ne_eqb (stated line) 0 n); short = omega arith; fit = fits; room = omega arith };
    }

-- a line of more than one byte states no number
stated_none : (line : List ℕ) → 2 < length line → stated line ≡ 0
unfolding stated
stated_none line h =
    rw (ne_eqb (length line) 2 (λ e. omega arith)) (go (in_pairs line))
  where
    go : (b : Bool) → cond (b && false) (get_or (bytes_of line) 0 0) 0 ≡ 0
    go true = refl
    go false = refl

-- ---- writing, then reading
-- the length of what is written
pub line_length_is : (v : Version) (ds : List ℤ) → length (line_of v ds) ≡ line_length v ds
line_length_is version1 ds = omega (arith, written_length (frame_bytes version1 ds), digits_length ds)
line_length_is version2 ds = omega (arith, written_length (frame_bytes version2 ds), entry_bytes_length (entries_from 0 ds), entries_count 0 ds)

-- its bytes open as a frame does, and lack nothing
frame_long : (v : Version) (ds : List ℤ) → 2 ≤ length (frame_bytes v ds)
frame_long version1 ds = omega arith
frame_long version2 ds = omega arith

frame_opens : (v : Version) (ds : List ℤ) → is_sparse (frame_bytes v ds) || eqb (get_or (frame_bytes v ds) 0 0) 0 ≡ true
unfolding is_sparse
frame_opens version1 ds = refl
frame_opens version2 ds = refl

frame_whole : (v : Version) (ds : List ℤ) → lacking (frame_bytes v ds) ≡ false
unfolding lacking is_sparse
frame_whole version1 ds = le-ltb (length (frame_bytes version1 ds)) 5 (omega arith)
frame_whole version2 ds =
    let bs = frame_bytes version2 ds in
    let n = entry_bytes_length (entries_from 0 ds) in
    rw (le-ltb (length bs) 7 (omega arith), eq-eqb ((length bs - 7) % 3) 0 (omega arith))

-- what reading answers and leaves where it gives a string back
pub record Back (ds digits₀ : List ℤ) (a : Parsed) (digits : List ℤ) : Type 0 where
  pub accepted : a.refusal ≡ 0
  pub unstated : a.stated ≡ 0
  pub weight_is : a.weight ≡ weight ds
  pub top_is : a.top ≡ top ds
  pub places_are : a.places ≡ length ds
  pub digits_are : digits ≡ ds ++ drop (length ds) digits₀

-- in both versions any string of at most 529 signed bytes is had back, wherever there is room for it
module _ (v : Version) (ds : List ℤ) (all : all_signed ds ≡ true) (few : length ds ≤ most_places) where
  abbrev bytes : List ℕ
  bytes = frame_bytes v ds

  same : bytes_of (line_of v ds) ≡ bytes
  same = bytes_written bytes (frame_all ds all few v)

  unstated : stated (line_of v ds) ≡ 0
  unstated = stated_none (line_of v ds) (omega (arith, written_length bytes, frame_long v ds))

  hold : Hold bytes ds
  hold = frame_hold ds all few v

  pub line_good : (places : ℕ) → length ds ≤ places → Good (line_of v ds) places
  unfolding unreadable
  line_good places h =
      let n : places_in (bytes_of (line_of v ds)) ≡ length ds = ap places_in same ∙ hold.places_are in
      record {
        readable = rw (unstated, same, pairs_written bytes (frame_all ds all few v), frame_opens v ds, frame_whole v ds);
        short = omega arith;
        fit = subst Fit (sym same) hold.fit;
        room = omega arith;
      }

  pub written_read : {digits₀ digits : List ℤ} {a : Parsed} → length ds ≤ length digits₀ → Read (line_of v ds) digits₀ a digits → Back ds digits₀ a digits
  written_read {digits₀} {digits} {a} h R =
      let line = line_of v ds in
      let z : a.refusal ≡ 0 = (first_only (read_rules line (length digits₀)) R.first (good_none line (length digits₀) (line_good (length digits₀) h))).0 in
      let places = ap places_in same ∙ hold.places_are in
      let string = ap digits_in same ∙ hold.digits_are in
      record {
        accepted = z;
        unstated = R.stated_is ∙ ap (λ x. granted x (stated line)) z ∙ unstated;
        weight_is = R.weight_is ∙ ap (λ x. granted x (weight_in (bytes_of line))) z ∙ ap weight_in same ∙ hold.fit.weight_fits ∙ ap weight hold.digits_are;
        top_is = R.top_is ∙ ap (λ x. granted x (top_in (bytes_of line))) z ∙ ap top_in same ∙ hold.fit.top_fits ∙ ap top hold.digits_are;
        places_are = R.places_are ∙ ap (λ x. granted x (places_in (bytes_of line))) z ∙ places;
        digits_are = R.digits_are ∙ ap (λ x. kept x (digits_in (bytes_of line) ++ drop (places_in (bytes_of line)) digits₀) digits₀) z ∙ rw (string, places);
      }

-- ---- reading, then writing
-- a line that can be read and states no number is a frame whose parts are there, of version 2 where it opens so
record Parts (line : List ℕ) : Type 0 where
  pub pairs : in_pairs line ≡ true
  pub opens : is_sparse (bytes_of line) || eqb (get_or (bytes_of line) 0 0) 0 ≡ true
  pub whole : lacking (bytes_of line) ≡ false

parts : (line : List ℕ) → unreadable line ≡ false → stated line ≡ 0 → Parts line
unfolding unreadable
parts line u s =
    let a = either_false _ _ (rw s at u) in
    let b = either_false _ _ a.1 in
    record { pairs = not-false _ a.0; opens = not-false _ b.0; whole = b.1 }

module _ (line : List ℕ) (readable : unreadable line ≡ false) where
  pub sparse_frame : is_sparse (bytes_of line) ≡ true → WholeFrame version2 line
  unfolding lacking
  sparse_frame s =
      let f = parts line readable none in
      let a = either_false (ltb (length (bytes_of line)) 7) (not (eqb ((length (bytes_of line) - 7) % 3) 0)) (rw s at f.whole) in
      record { pairs = f.pairs; unstated = none; sparse = s; long = ltb-false (length (bytes_of line)) 7 a.0; whole = eqb-true _ 0 (not-false _ a.1) }
    where
      none : stated line ≡ 0
      none = go (ℕ_discrete (stated line) 0)
        where
          go : Dec (stated line ≡ 0) → stated line ≡ 0
          go (yes e) = e
          go (no n) = let S = states line n in absurd (omega (arith, S.most, S.byte_is, sparse_opens (bytes_of line) s))

  pub plain_frame : is_sparse (bytes_of line) ≡ false → stated line ≡ 0 → WholeFrame version1 line
  unfolding lacking
  plain_frame s z =
      let f = parts line readable z in
      record {
        pairs = f.pairs;
        unstated = z;
        plain = s;
        opens = eqb-true (get_or (bytes_of line) 0 0) 0 (rw s at f.opens);
        long = ltb-false (length (bytes_of line)) 5 (rw s at f.whole);
      }

-- such a frame that fits is, in capitals, the line that is written for its digits
pub canonical : (v : Version) (line : List ℕ) → WholeFrame v line → Fit (bytes_of line) → in_capitals line ≡ line_of v (digits_in (bytes_of line))
canonical version1 line f g =
    sym (pairs_capitals line f.pairs) ∙ ap written (sym (plain_again (bytes_of line) (pairs_bytes line f.pairs) f.plain f.opens f.long g))
canonical version2 line f g =
    sym (pairs_capitals line f.pairs) ∙ ap written (sym (sparse_again (bytes_of line) (pairs_bytes line f.pairs) f.sparse f.long f.whole g))

-- ---- a line that is read without refusal
module _ (line : List ℕ) (places : ℕ) (g : Good line places) where
  -- is hexadecimal pairs
  pub good_pairs : in_pairs line ≡ true
  good_pairs = go (ℕ_discrete (stated line) 0)
    where
      go : Dec (stated line ≡ 0) → in_pairs line ≡ true
      go (yes z) = (parts line g.readable z).pairs
      go (no n) = (states line n).pairs

  -- and has at most the characters of 529 nonzero digits in version 2
  pub good_length : length line ≤ 14 + 6 * most_places
  good_length = go (ℕ_discrete (stated line) 0) (is_sparse (bytes_of line)) refl
    where
      ds : List ℤ
      ds = digits_in (bytes_of line)

      few : length ds ≤ most_places
      few = omega (arith, digits_places (bytes_of line), g.short)

      go : Dec (stated line ≡ 0) → (b : Bool) → is_sparse (bytes_of line) ≡ b → length line ≤ 14 + 6 * most_places
      go (no n) b s = omega (arith, (states line n).one)
      go (yes z) true s = omega (arith, few, capitals_length line, ap length (canonical version2 line (sparse_frame line g.readable s) g.fit), line_length_is version2 ds, weight_le ds)
      go (yes z) false s = omega (arith, few, capitals_length line, ap length (canonical version1 line (plain_frame line g.readable s z) g.fit), line_length_is version1 ds)
