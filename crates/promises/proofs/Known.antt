-- The known strings P1 to P12: a single list of cases, and one theorem that covers it. What the promise of recode, of tape and of run determines at each case
-- is the listed answer. Assumes nothing.
use mathlib.Core.Path.{◌≡◌, refl, sym, ap, subst, ◌∙◌}
use mathlib.Core.Logic.{◌≢◌, ⊎_elim}
use mathlib.Core.Bool.{Bool, not, ◌&&◌, ◌||◌}
use mathlib.Core.List.{List, [], ◌∷◌, ◌++◌}
use Prim.Native.Nat.{ℕ, zero, suc, ◌+◌, ◌-◌, ◌%◌, ◌^◌, ◌<◌, ◌≤◌}
use native.Mathlib.Omega.{arith}
use lib.Count.{count_trailing_zeros}
use lib.Dec.{T, leb, eqb, leb→le, eqb→eq, T_not, lit<, lit≤}
use Rattle.laws.proofs.Choices.{and_both, or_either, equal}
use lib.IntN.{ℤ, pos, negsuc, ◌*ℤ◌}
use lib.ListN.{length, get_or, drop, replicate}
use Rattle.meaning.specs.Scalars.{Order, highest_first, number, bit_count}
use Rattle.meaning.specs.Digits.{nonzero, weight, top, listed, in_set, all_in, largest, entries}
use Rattle.meaning.specs.Sets.{Pair, Between}
use Rattle.meaning.specs.Mof.{mof}
use Rattle.meaning.specs.Windows.{window_worth, shrink}
use Rattle.meaning.specs.Wmof.{wmof_under, wmof}
use Rattle.meaning.specs.Forms.{Asked, one, nothing, asked, most_form, FormIn}
use Rattle.meaning.specs.Recoding.{mark_words, marks_of, recode_rules}
use Rattle.meaning.specs.Checking.{BadDigit}
use Rattle.meaning.specs.Words.{step_of}
use Rattle.meaning.specs.Walks.{taken, walked, tape_value, doublings, additions}
use Rattle.meaning.specs.Multiples.{cost_of}
use Rattle.meaning.specs.Taping.{moves, down, tape_of, tape_rules}
use Rattle.meaning.specs.Running.{Residue, BadWord, multiples_of, run_rules, Run, Ran}
use Rattle.forms.specs.Fractional.{fractional_digit, fractional_next, fractional_from}
use Rattle.forms.specs.Closest.{closest_under, closest_of}
use Rattle.forms.proofs.Refusals.{first_none}
use Rattle.forms.proofs.Strings.{all_at}
use Rattle.forms.proofs.Forms.{string_of, kind_is, asked_one}
use Rattle.width.proofs.Widths.{set_fine, whole_pair, pair_sized}
use Rattle.walk.proofs.Lengths.{tape_fits}
use Rattle.walk.proofs.Tapes.{Faithful, faithful, tape_good}
use Rattle.recoder.specs.Judged.{Allowed}
use Rattle.recoder.proofs.Refusals.{admits}
use Rattle.promises.proofs.Recode.{Outcome, Keeps, recode_determined}
use Rattle.promises.proofs.Tape as Taping
use Rattle.promises.proofs.Tape.{tape_determined}
use Rattle.promises.proofs.Run.{run_plain}

-- every element of a list
abbrev pub All : {A : Type 0} → (A → Type 0) → List A → Type 0
All P [] = Unit {0}
All P (x ∷ xs) = P x × All P xs

-- of bytes that come highest first: a string in some forms of one set; a string in every form in every set that the form has; or a string's tape, and its run at a modulus and a base
pub data Case : Type 0 where
  string : (forms : List ℕ) (w l : ℕ) (s : List ℕ) (ds : List ℤ) → Case
  every : (s : List ℕ) (ds : List ℤ) → Case
  steps : (w l : ℕ) (ds : List ℤ) (ws : List ℕ) (m g x doubled added : ℕ) (multiples : List ℕ) → Case

-- zeros above the digits that are written out
abbrev zeros : ℕ → List ℤ
zeros n = replicate n (pos 0)

-- P1 to P10, place 0 first, on all places that the scalar's bytes give; then strings at which the two tie rules part, and two of the set of six multiples; then P11 and P12, the tapes of P2 and P5 and their runs
pub cases : List Case
cases =
    string (1 ∷ []) 2 1 (13 ∷ []) (negsuc 0 ∷ pos 1 ∷ negsuc 0 ∷ pos 0 ∷ pos 1 ∷ zeros 4)
    ∷ string (2 ∷ []) 2 1 (13 ∷ []) (pos 1 ∷ pos 0 ∷ negsuc 0 ∷ pos 0 ∷ pos 1 ∷ zeros 4)
    ∷ string (3 ∷ []) 2 1 (13 ∷ []) (negsuc 0 ∷ negsuc 0 ∷ pos 0 ∷ pos 0 ∷ pos 1 ∷ zeros 4)
    ∷ string (4 ∷ []) 2 1 (13 ∷ []) (pos 1 ∷ pos 0 ∷ negsuc 0 ∷ pos 0 ∷ pos 1 ∷ zeros 4)
    ∷ string (2 ∷ 3 ∷ 4 ∷ []) 3 3 (42 ∷ []) (pos 0 ∷ negsuc 2 ∷ pos 0 ∷ pos 0 ∷ pos 3 ∷ zeros 4)
    ∷ string (2 ∷ []) 4 7 (1 ∷ 93 ∷ []) (negsuc 2 ∷ zeros 4 ++ (negsuc 4 ∷ zeros 3 ++ (pos 1 ∷ zeros 7)))
    ∷ string (3 ∷ 4 ∷ []) 4 7 (1 ∷ 93 ∷ []) (pos 1 ∷ pos 0 ∷ pos 7 ∷ zeros 3 ++ (pos 5 ∷ zeros 10))
    ∷ string (2 ∷ 3 ∷ 4 ∷ []) 8 127 (255 ∷ []) (negsuc 0 ∷ zeros 7 ++ (pos 1 ∷ []))
    ∷ every [] (pos 0 ∷ [])
    ∷ string (1 ∷ []) 2 1 (3 ∷ []) (negsuc 0 ∷ pos 0 ∷ pos 1 ∷ zeros 6)
    ∷ string (5 ∷ []) 8 127 (255 ∷ []) (pos 1 ∷ pos 127 ∷ zeros 7)
    ∷ string (4 ∷ []) 3 3 (5 ∷ []) (negsuc 0 ∷ pos 3 ∷ zeros 7)
    ∷ string (5 ∷ []) 3 3 (5 ∷ []) (pos 1 ∷ pos 0 ∷ pos 1 ∷ zeros 6)
    ∷ string (4 ∷ []) 3 3 (1 ∷ 123 ∷ []) (pos 1 ∷ negsuc 2 ∷ zeros 5 ++ (pos 3 ∷ zeros 9))
    ∷ string (5 ∷ []) 3 3 (1 ∷ 123 ∷ []) (negsuc 0 ∷ pos 0 ∷ negsuc 0 ∷ zeros 4 ++ (pos 3 ∷ zeros 9))
    ∷ string (2 ∷ []) 4 11 (11 ∷ []) (pos 11 ∷ zeros 8)
    ∷ string (2 ∷ []) 4 11 (13 ∷ []) (negsuc 2 ∷ zeros 3 ++ (pos 1 ∷ zeros 4))
    ∷ steps 2 1 (pos 1 ∷ pos 0 ∷ negsuc 0 ∷ pos 0 ∷ pos 1 ∷ zeros 4) (0x1000 ∷ 0 ∷ 0 ∷ 0x4000 ∷ 0 ∷ 0 ∷ 0x3000 ∷ []) 1000 7 91 4 2 (7 ∷ [])
    ∷ steps 3 3 (pos 0 ∷ negsuc 2 ∷ pos 0 ∷ pos 0 ∷ pos 3 ∷ zeros 4) (0x1001 ∷ 0 ∷ 0 ∷ 0 ∷ 0x4001 ∷ 0 ∷ []) 10 9 8 4 1 (9 ∷ 7 ∷ [])
    ∷ []

-- the string of a form's number, computed
abbrev made_by : Asked → (w l N n : ℕ) → List ℤ
made_by (one k) w l N n = string_of k w l N n
made_by nothing w l N n = []

abbrev pub string_by : (form w l N n : ℕ) → List ℤ
string_by form w l N n = made_by (asked form) w l N n

-- whatever an outcome is that keeps the promise of recode: accepted, these digits and their marks, weight and top, and what stood past them
pub record Answered (s : List ℕ) (ds : List ℤ) (digits₀ : List ℤ) (marks₀ : List ℕ) (o : Outcome) : Type 0 where
  pub tally_is : o.tally ≡ record { refusal = 0; place = 0; weight = weight ds; top = top ds }
  pub digits_are : o.digits ≡ ds ++ drop (bit_count s + 1) digits₀
  pub marks_are : o.marks ≡ marks_of ds ++ drop mark_words marks₀

-- whatever an outcome is that keeps the promise of tape: accepted, these words and counts, and what stood past them
pub record Written (ws : List ℕ) (doubled added : ℕ) (words₀ : List ℕ) (o : Taping.Outcome) : Type 0 where
  pub taped_is : o.taped ≡ record { refusal = 0; place = 0; words = length ws; doublings = doubled; additions = added }
  pub words_are : o.words ≡ ws ++ drop (length ws) words₀

-- what an accepted run answers
abbrev pub ran_to : (l x doubled added : ℕ) → Ran
ran_to l x doubled added = record { refusal = 0; place = 0; residue = x; doublings = doubled; additions = added; cost = cost_of (entries l) }

-- whatever is lent, if it is enough, recode answers these digits
abbrev pub Answers : (f w l : ℕ) (order : Order) (s : List ℕ) (ds : List ℤ) → Type 0
Answers f w l order s ds = (digits₀ : List ℤ) (marks₀ : List ℕ) → bit_count s + 1 ≤ length digits₀ → mark_words ≤ length marks₀ → (o : Outcome) → Keeps f w l order s digits₀ marks₀ o → Answered s ds digits₀ marks₀ o

pub Holds : Case → Type 0
Holds (string forms w l s ds) = All (λ f. Answers f w l highest_first s ds) forms
Holds (every s ds) = (f w l : ℕ) → Allowed f w l → Answers f w l highest_first s ds
Holds (steps w l ds ws m g x doubled added multiples) =
    ((words₀ : List ℕ) → length ws ≤ length words₀ → (o : Taping.Outcome) → Taping.Keeps w l ds words₀ o → Written ws doubled added words₀ o)
    × ((multiples₀ : List ℕ) → entries l ≤ length multiples₀ → (r : Ran) (ms : List ℕ) → Run w l ws m g multiples₀ r ms → (r ≡ ran_to l x doubled added) × (ms ≡ multiples ++ drop (entries l) multiples₀))

-- ---- a string in a form
-- the form at the width, by a test
abbrev pub fine : ℕ → ℕ → Bool
fine f w = (leb 1 f && leb f most_form) && ((leb 2 w && leb w 8) && (not (eqb f 1) || eqb w 2))

-- and the set, by another
abbrev pub paired : (f w l : ℕ) → Bool
paired f w l = (eqb (l % 2) 1 && (leb (largest w) l && leb l (2 ^ w - 1))) && ((leb l (largest w) || leb w 7) && (eqb f 2 || eqb l (largest w)))

pub allowed : (f w l : ℕ) → T (fine f w) → T (paired f w l) → Allowed f w l
allowed f w l t u =
    let (a, b) = and_both (leb 1 f && leb f most_form) ((leb 2 w && leb w 8) && (not (eqb f 1) || eqb w 2)) t in
    let (c, d) = and_both (leb 1 f) (leb f most_form) a in
    let (e, g) = and_both (leb 2 w && leb w 8) (not (eqb f 1) || eqb w 2) b in
    let (h, i) = and_both (leb 2 w) (leb w 8) e in
    let (x, y) = and_both (eqb (l % 2) 1 && (leb (largest w) l && leb l (2 ^ w - 1))) ((leb l (largest w) || leb w 7) && (eqb f 2 || eqb l (largest w))) u in
    let (odd, bounds) = and_both (eqb (l % 2) 1) (leb (largest w) l && leb l (2 ^ w - 1)) x in
    let (least, most) = and_both (leb (largest w) l) (leb l (2 ^ w - 1)) bounds in
    let (above, whole) = and_both (leb l (largest w) || leb w 7) (eqb f 2 || eqb l (largest w)) y in
    record {
      least = leb→le 1 f c;
      most = leb→le f most_form d;
      pair = record {
        between = record { wide = leb→le 2 w h; odd = eqb→eq (l % 2) 1 odd; least = leb→le (largest w) l least; most = leb→le l (2 ^ w - 1) most };
        most = leb→le w 8 i;
        above = λ z. ⊎_elim (λ q. absurd (omega (arith, leb→le l (largest w) q))) (λ q. omega (arith, leb→le w 7 q)) (or_either (leb l (largest w)) (leb w 7) above);
      };
      narrow = λ z. ⊎_elim (λ x. absurd (T_not (eqb f 1) x (equal f 1 z))) (λ x. eqb→eq w 2 x) (or_either (not (eqb f 1)) (eqb w 2) g);
      whole = λ z. ⊎_elim (λ q. absurd (z (eqb→eq f 2 q))) (λ q. eqb→eq l (largest w) q) (or_either (eqb f 2) (eqb l (largest w)) whole);
    }

-- what is computed has the form
pub string_formed : (f w l N n : ℕ) → Between w l → N < 2 ^ n → 1 ≤ f → f ≤ most_form → FormIn f w l N n (string_by f w l N n)
string_formed f w l N n set small a b = let (k, e) = asked_one f a b in rw e (kind_is w l N n set small k)

-- an outcome that keeps the promise is the one that the form's string gives
pub answered : (f w l : ℕ) (order : Order) (s : List ℕ) (ds : List ℤ) → Allowed f w l → length s ≤ 66 → number order s < 2 ^ bit_count s → FormIn f w l (number order s) (bit_count s) ds
    → Answers f w l order s ds
answered f w l order s ds a few small F digits₀ marks₀ p q o K =
    let want : Outcome = record { tally = record { refusal = 0; place = 0; weight = weight ds; top = top ds }; digits = ds ++ drop (bit_count s + 1) digits₀; marks = marks_of ds ++ drop mark_words marks₀ } in
    let W : Keeps f w l order s digits₀ marks₀ want = record {
      first = first_none (recode_rules f w l s (length digits₀) (length marks₀)) (admits f w l a s (length digits₀) (length marks₀) [] tt few p q);
      accepted = λ e. record { string = ds; formed = F; digits_are = refl; marks_are = refl; weight_is = refl; top_is = refl };
      refused = λ n. absurd (n refl);
    } in
    let e = recode_determined f w l order s digits₀ marks₀ o want K W in
    record { tally_is = ap (λ (x : Outcome). x.tally) e; digits_are = ap (λ (x : Outcome). x.digits) e; marks_are = ap (λ (x : Outcome). x.marks) e }

-- so for the string that is computed
by_string : (f w l : ℕ) (order : Order) (s : List ℕ) (ds : List ℤ) → Allowed f w l → length s ≤ 66 → number order s < 2 ^ bit_count s → ds ≡ string_by f w l (number order s) (bit_count s) → Answers f w l order s ds
by_string f w l order s ds a few small e = answered f w l order s ds a few small (rw e (string_formed f w l (number order s) (bit_count s) a.pair.between small a.least a.most))

-- ---- a tape and its run
-- what computes of such a case
pub record Stepped (w l : ℕ) (ds : List ℤ) (ws : List ℕ) (m g x doubled added : ℕ) (multiples : List ℕ) : Type 0 where
  pub pair : Pair w l
  pub short : length ds ≤ 529
  pub is_in_set : T (all_in l ds)
  pub words_are : tape_of ds ≡ ws
  pub doublings_are : top ds - 1 ≡ doubled
  pub additions_are : weight ds - 1 ≡ added
  pub some : m ≢ 0
  pub residue_is : Residue m (tape_value ws *ℤ pos g) x
  pub multiples_are : multiples_of (entries l) m g ≡ multiples

module _ (w l : ℕ) (ds : List ℤ) (ws : List ℕ) (m g x doubled added : ℕ) (multiples : List ℕ) (S : Stepped w l ds ws m g x doubled added multiples) where
  -- its tape
  tape : Faithful l (pair_sized S.pair).0 (pair_sized S.pair).1 ds
  tape = faithful l (pair_sized S.pair).0 (pair_sized S.pair).1 ds S.is_in_set

  -- no digit is bad, and no word
  none_bad : (q : ℕ) → BadDigit l ds q → ⊥
  none_bad q b = T_not (in_set l (get_or ds q (pos 0))) b.bad (all_at l ds S.is_in_set q b.within)

  pub all_good : (q : ℕ) → BadWord (entries l) ws q → ⊥
  all_good q b =
      let c : BadWord (entries l) (tape_of ds) q = subst (λ v. BadWord (entries l) v q) (sym S.words_are) b in
      c.bad (tape_good l (pair_sized S.pair).0 (pair_sized S.pair).1 ds S.is_in_set q c.within)

  -- the tape
  pub taped : (words₀ : List ℕ) → length ws ≤ length words₀ → (o : Taping.Outcome) → Taping.Keeps w l ds words₀ o → Written ws doubled added words₀ o
  taped words₀ room o K =
      let want : Taping.Outcome = record { taped = record { refusal = 0; place = 0; words = length ws; doublings = doubled; additions = added }; words = ws ++ drop (length ws) words₀ } in
      let n = ap length S.words_are in
      let W : Taping.Keeps w l ds words₀ want = record {
        first = first_none (tape_rules w l ds (length words₀)) ((set_fine S.pair).0, ((set_fine S.pair).1, ((λ k. omega (arith, S.short)), (none_bad, ((λ k. omega (arith, n)), tt)))));
        count_is = sym n;
        doublings_are = sym S.doublings_are;
        additions_are = sym S.additions_are;
        words_are = ap (λ v. v ++ drop (length v) words₀) (sym S.words_are);
      } in
      let e = tape_determined w l ds words₀ o want K W in
      record { taped_is = ap (λ (v : Taping.Outcome). v.taped) e; words_are = ap (λ (v : Taping.Outcome). v.words) e }

  -- its run
  pub ran : (multiples₀ : List ℕ) → entries l ≤ length multiples₀ → (r : Ran) (ms : List ℕ) → Run w l ws m g multiples₀ r ms → (r ≡ ran_to l x doubled added) × (ms ≡ multiples ++ drop (entries l) multiples₀)
  ran multiples₀ room r ms P =
      let few : length ws ≤ 1057 = omega (arith, ap length S.words_are, tape_fits ds S.short) in
      let W : Run w l ws m g multiples₀ (ran_to l x doubled added) (multiples ++ drop (entries l) multiples₀) = record {
        first = first_none (run_rules w l ws m (length multiples₀)) ((set_fine S.pair).0, ((set_fine S.pair).1, (S.some, ((λ k. omega arith), ((λ k. omega arith), (all_good, tt))))));
        residue_is = λ z. S.residue_is;
        residue_none = λ n. absurd (n refl);
        doublings_are = sym S.doublings_are ∙ sym tape.doublings_are ∙ ap doublings S.words_are;
        additions_are = sym S.additions_are ∙ sym tape.additions_are ∙ ap additions S.words_are;
        cost_doublings_are = refl;
        cost_additions_are = refl;
        multiples_are = ap (λ v. v ++ drop (entries l) multiples₀) (sym S.multiples_are);
      } in
      run_plain w l ws m g multiples₀ r _ ms _ P W

-- ---- the theorem
-- a case computes
pub Fits : Case → Type 0
Fits (string forms w l s ds) = (length s ≤ 66) × (number highest_first s < 2 ^ bit_count s) × All (λ f. T (fine f w) × T (paired f w l) × (ds ≡ string_by f w l (number highest_first s) (bit_count s))) forms
Fits (every s ds) = (length s ≤ 66) × (number highest_first s < 2 ^ bit_count s) × ((f w l : ℕ) → Allowed f w l → ds ≡ string_by f w l (number highest_first s) (bit_count s))
Fits (steps w l ds ws m g x doubled added multiples) = Stepped w l ds ws m g x doubled added multiples

-- and so it holds
holds : (c : Case) → Fits c → Holds c
unfolding Fits Holds
holds (steps w l ds ws m g x doubled added multiples) S = (taped w l ds ws m g x doubled added multiples S, ran w l ds ws m g x doubled added multiples S)
holds (every s ds) (few, small, each) = λ f w l a. by_string f w l highest_first s ds a few small (each f w l a)
holds (string forms w l s ds) (few, small, each) = go forms each
  where
    go : (fs : List ℕ) → All (λ f. T (fine f w) × T (paired f w l) × (ds ≡ string_by f w l (number highest_first s) (bit_count s))) fs → All (λ f. Answers f w l highest_first s ds) fs
    go [] h = tt
    go (f ∷ fs) ((t, u, e), h) = (by_string f w l highest_first s ds (allowed f w l t u) few small e, go fs h)

all_hold : (cs : List Case) → All Fits cs → All Holds cs
all_hold [] h = tt
all_hold (c ∷ cs) (a, h) = (holds c a, all_hold cs h)

-- the first, and the others
infixr 30 ◌&◌
◌&◌ : {A B : Type 0} → A → B → A × B
a & b = (a, b)

-- P11 and P12 compute
pub eleventh : Stepped 2 1 (pos 1 ∷ pos 0 ∷ negsuc 0 ∷ pos 0 ∷ pos 1 ∷ zeros 4) (0x1000 ∷ 0 ∷ 0 ∷ 0x4000 ∷ 0 ∷ 0 ∷ 0x3000 ∷ []) 1000 7 91 4 2 (7 ∷ [])
unfolding all_in in_set weight top nonzero tape_of down moves walked taken step_of multiples_of listed
eleventh =
    record {
      pair = whole_pair (lit≤ tt, lit≤ tt);
      short = lit≤ tt;
      is_in_set = tt;
      words_are = refl;
      doublings_are = refl;
      additions_are = refl;
      some = λ e. omega arith;
      residue_is = record { quotient = pos 0; is = refl; least = lit< tt };
      multiples_are = refl;
    }

pub twelfth : Stepped 3 3 (pos 0 ∷ negsuc 2 ∷ pos 0 ∷ pos 0 ∷ pos 3 ∷ zeros 4) (0x1001 ∷ 0 ∷ 0 ∷ 0 ∷ 0x4001 ∷ 0 ∷ []) 10 9 8 4 1 (9 ∷ 7 ∷ [])
unfolding all_in in_set weight top nonzero tape_of down moves walked taken step_of multiples_of listed
twelfth =
    record {
      pair = whole_pair (lit≤ tt, lit≤ tt);
      short = lit≤ tt;
      is_in_set = tt;
      words_are = refl;
      doublings_are = refl;
      additions_are = refl;
      some = λ e. omega arith;
      residue_is = record { quotient = pos 37; is = refl; least = lit< tt };
      multiples_are = refl;
    }

-- no bytes, in every form
no_bytes : (f w l : ℕ) → Allowed f w l → pos 0 ∷ [] ≡ string_by f w l (number highest_first []) (bit_count [])
unfolding asked string_of number mof listed fractional_from fractional_digit fractional_next wmof wmof_under closest_of closest_under window_worth shrink count_trailing_zeros
no_bytes zero w l a = absurd (omega (arith, a.least))
no_bytes (suc zero) w l a = refl
no_bytes (suc (suc zero)) w l a = refl
no_bytes (suc (suc (suc zero))) w l a = refl
no_bytes (suc (suc (suc (suc zero)))) w l a = refl
no_bytes (suc (suc (suc (suc (suc zero))))) w l a = refl
no_bytes (suc (suc (suc (suc (suc (suc f)))))) w l a = absurd (omega (arith, a.most))

-- every case computes: the numbers, and each form's string by `refl`
all_fit : All Fits cases
unfolding Fits cases asked string_of number mof listed fractional_from fractional_digit fractional_next wmof wmof_under closest_of closest_under window_worth shrink count_trailing_zeros
all_fit =
    (lit≤ tt, lit< tt, (tt, tt, refl) & tt)
    & (lit≤ tt, lit< tt, (tt, tt, refl) & tt)
    & (lit≤ tt, lit< tt, (tt, tt, refl) & tt)
    & (lit≤ tt, lit< tt, (tt, tt, refl) & tt)
    & (lit≤ tt, lit< tt, (tt, tt, refl) & (tt, tt, refl) & (tt, tt, refl) & tt)
    & (lit≤ tt, lit< tt, (tt, tt, refl) & tt)
    & (lit≤ tt, lit< tt, (tt, tt, refl) & (tt, tt, refl) & tt)
    & (lit≤ tt, lit< tt, (tt, tt, refl) & (tt, tt, refl) & (tt, tt, refl) & tt)
    & (lit≤ tt, lit< tt, no_bytes)
    & (lit≤ tt, lit< tt, (tt, tt, refl) & tt)
    & (lit≤ tt, lit< tt, (tt, tt, refl) & tt)
    & (lit≤ tt, lit< tt, (tt, tt, refl) & tt)
    & (lit≤ tt, lit< tt, (tt, tt, refl) & tt)
    & (lit≤ tt, lit< tt, (tt, tt, refl) & tt)
    & (lit≤ tt, lit< tt, (tt, tt, refl) & tt)
    & (lit≤ tt, lit< tt, (tt, tt, refl) & tt)
    & (lit≤ tt, lit< tt, (tt, tt, refl) & tt)
    & eleventh
    & twelfth
    & tt

-- P1 to P12 hold of the promises
pub known_strings : All Holds cases
known_strings = all_hold cases all_fit
