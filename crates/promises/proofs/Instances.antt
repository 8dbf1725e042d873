-- Each promise is kept by a call: for every input there is an outcome that satisfies it. So no theorem about calls that keep a promise is empty; and since two outcomes that keep
-- it are equal, what the real call leaves is that outcome, at every input. Assumes nothing.
use mathlib.Core.Path.{◌≡◌, refl}
use mathlib.Core.Logic.{◌≢◌, ◌⊎◌, inl, inr, ⊎_elim}
use mathlib.Core.Bool.{Bool, true, false, not}
use mathlib.Core.List.{List, [], ◌∷◌, ◌++◌}
use Prim.Native.Nat.{ℕ, zero, suc, ◌+◌, ◌-◌, ◌%◌, ◌^◌, ◌<◌, ◌≤◌}
use native.Mathlib.Omega.{arith}
use native.Mathlib.Decide.{dec_lt, dec_le, ℕ_discrete}
use lib.Dec.{T}
use lib.IntN.{ℤ, pos, ℤ_discrete}
use lib.ListN.{length, get_or, drop, get_or-eq_default}
use Rattle.laws.proofs.Choices.{not_below}
use Rattle.meaning.specs.Scalars.{Order, highest_first, number, bit_count}
use Rattle.meaning.specs.Digits.{least_width, most_width, largest, entries, in_set, worth, weight, top, most_places, Tally}
use Rattle.meaning.specs.Sets.{Pair}
use Rattle.meaning.specs.Forms.{most_form}
use Rattle.meaning.specs.Refusals.{Rule, plain, lowest, number_of, Lowest, Applies, Fails, First, granted, kept, bad_width, bad_set}
use Rattle.meaning.specs.Recoding.{mark_words, marks_of, set_for, rules_with, recode_rules, group_rules, below_rules}
use Rattle.meaning.specs.Checking.{BadDigit, bad_digit, Crowded, check_rules, nonadjacent_rules}
use Rattle.meaning.specs.Words.{code_of, entry_of}
use Rattle.meaning.specs.Walks.{tape_value, IsLoad, Good}
use Rattle.meaning.specs.Multiples.{cost_of}
use Rattle.meaning.specs.Taping.{tape_of, tape_rules}
use Rattle.meaning.specs.Running.{BadWord, multiples_of, run_rules, Ran, times, Run}
use Rattle.meaning.specs.Hexadecimal.{bytes_of}
use Rattle.meaning.specs.Frames.{Version, line_of, write_rules, Framed, Write, weight_in, top_in, places_in, digits_in, stated, unreadable, unfit, read_rules, Parsed, Read}
use Rattle.forms.proofs.Refusals.{clear, first_only}
use Rattle.forms.proofs.Forms.{form_exists}
use Rattle.width.proofs.Widths.{pair_of}
use Rattle.scalar.proofs.Bytes.{Bytes, number_lt}
use Rattle.promises.proofs.Recode as Recoding
use Rattle.promises.proofs.Below as Below
use Rattle.promises.proofs.Below.{below_fine, without_group}
use Rattle.promises.proofs.Tape as Taping
use Rattle.promises.proofs.Check as Checking
use Rattle.promises.proofs.Run.{by_kept}

-- ---- rules that can be decided
-- the rule applies at some place, or fails
abbrev pub Decided : Rule → Type 0
Decided x = ((p : ℕ) × Applies x p) ⊎ Fails x

-- each rule, where those before it fail
abbrev pub AllDecided : List Rule → Type 0
AllDecided [] = Unit {0}
AllDecided (x ∷ xs) = Decided x × (Fails x → AllDecided xs)

-- then one of them is the first, or none is
pub first_exists : (rules : List Rule) → AllDecided rules → (r : ℕ) × (p : ℕ) × First rules r p
first_exists [] d = (0, 0, (refl, refl))
first_exists (x ∷ xs) (inl (p, h), d) = (number_of x, p, inl (refl, h))
first_exists (x ∷ xs) (inr n, d) = let (r, p, f) = first_exists xs (d n) in (r, p, inr (n, f))

-- a rule's number does not matter here
pub by : {C : Type 0} → Dec C → Decided (plain 0 C)
by (yes c) = inl (0, (c, refl))
by (no n) = inr n

flag? : (b : Bool) → Dec (T b)
flag? true = yes tt
flag? false = no (λ t. t)

-- rules that are all plain name no place
abbrev AllPlain : List Rule → Type 0
AllPlain [] = Unit {0}
AllPlain (plain n C ∷ xs) = AllPlain xs
AllPlain (lowest n C ∷ xs) = ⊥

plain_place : (rules : List Rule) → AllPlain rules → (r p : ℕ) → First rules r p → First rules r 0
plain_place [] t r p (z, e) = (z, refl)
plain_place (plain n C ∷ xs) t r p (inl (a, (c, e))) = inl (a, (c, refl))
plain_place (plain n C ∷ xs) t r p (inr (o, f)) = inr (o, plain_place xs t r p f)
plain_place (lowest n C ∷ xs) t r p f = absurd t

-- the lowest of the places under n, or none of them
search_under : (C : ℕ → Type 0) → ((p : ℕ) → Dec (C p)) → (n : ℕ) → ((p : ℕ) × (p < n) × Lowest C p) ⊎ ((p : ℕ) → p < n → C p → ⊥)
search_under C dec zero = inr (λ p l c. omega arith)
search_under C dec (suc n) = go (search_under C dec n) (dec n)
  where
    go : ((p : ℕ) × (p < n) × Lowest C p) ⊎ ((p : ℕ) → p < n → C p → ⊥) → Dec (C n) → ((p : ℕ) × (p < suc n) × Lowest C p) ⊎ ((p : ℕ) → p < suc n → C p → ⊥)
    go (inl (p, l, c)) d = inl (p, omega arith, c)
    go (inr f) (yes c) = inl (n, omega arith, (c, f))
    go (inr f) (no g) = inr (λ p l c. at p (dec_lt p n) l c)
      where
        at : (p : ℕ) → Dec (p < n) → p < suc n → C p → ⊥
        at p (yes h) l c = f p h c
        at p (no h) l c = let e : p ≡ n = omega arith in g (rw e at c)

pub among : (C : ℕ → Type 0) → ((p : ℕ) → Dec (C p)) → (n : ℕ) → ((p : ℕ) → C p → p < n) → Decided (lowest 0 C)
among C dec n within = go (search_under C dec n)
  where
    go : ((p : ℕ) × (p < n) × Lowest C p) ⊎ ((p : ℕ) → p < n → C p → ⊥) → Decided (lowest 0 C)
    go (inl (p, l, c)) = inl (p, c)
    go (inr f) = inr (λ p c. f p (within p c) c)

-- ---- sentences that can be decided
pub or? : {A B : Type 0} → Dec A → Dec B → Dec (A ⊎ B)
or? (yes a) b = yes (inl a)
or? (no n) (yes b) = yes (inr b)
or? (no n) (no m) = no (⊎_elim n m)

pub and? : {A B : Type 0} → Dec A → Dec B → Dec (A × B)
and? (no n) b = no (λ h. n h.0)
and? (yes a) (no n) = no (λ h. n h.1)
and? (yes a) (yes b) = yes (a, b)

pub not? : {A : Type 0} → Dec A → Dec (A → ⊥)
not? (yes a) = no (λ n. n a)
not? (no n) = yes n

if? : {A B : Type 0} → Dec A → Dec B → Dec (A → B)
if? a (yes b) = yes (λ _. b)
if? (no n) (no m) = yes (λ a. absurd (n a))
if? (yes a) (no m) = no (λ f. m (f a))

true? : (b : Bool) → Dec (T b)
true? true = yes tt
true? false = no (λ t. t)

pub width? : (w : ℕ) → Decided (bad_width w)
width? w = by (or? (dec_lt w least_width) (dec_lt most_width w))

pair? : (w l : ℕ) → Dec (Pair w l)
pair? w l =
    go (and? (and? (dec_le least_width w) (and? (ℕ_discrete (l % 2) 1) (and? (dec_le (largest w) l) (dec_le l (2 ^ w - 1))))) (and? (dec_le w most_width) (if? (dec_lt (largest w) l) (dec_lt w most_width))))
  where
    go : Dec (((least_width ≤ w) × ((l % 2 ≡ 1) × ((largest w ≤ l) × (l ≤ 2 ^ w - 1)))) × ((w ≤ most_width) × (largest w < l → w < most_width))) → Dec (Pair w l)
    go (yes ((a, (b, (c, d))), (e, f))) = yes (record { between = record { wide = a; odd = b; least = c; most = d }; most = e; above = f })
    go (no n) = no (λ p. let b = p.between in n ((b.wide, (b.odd, (b.least, b.most))), (p.most, p.above)))

pub set? : (w l : ℕ) → Decided (bad_set w l)
set? w l = by (not? (pair? w l))

bad? : (m : ℕ) (ds : List ℤ) → Decided (bad_digit m ds)
bad? m ds = among (BadDigit m ds) one (length ds) (λ p b. b.within)
  where
    one : (p : ℕ) → Dec (BadDigit m ds p)
    one p = go (and? (dec_lt p (length ds)) (true? (not (in_set m (get_or ds p (pos 0))))))
      where
        go : Dec ((p < length ds) × T (not (in_set m (get_or ds p (pos 0))))) → Dec (BadDigit m ds p)
        go (yes h) = yes (record { within = h.0; bad = h.1 })
        go (no n) = no (λ b. n (b.within, b.bad))

-- ---- recode, of a scalar of bytes, with whichever other rules
decided_before : (xs ys : List Rule) → AllDecided xs → AllDecided ys → AllDecided (xs ++ ys)
decided_before [] ys a b = b
decided_before (x ∷ xs) ys (d, a) b = (d, λ n. decided_before xs ys (a n) b)

recode_decided : (more : List Rule) → AllDecided more → (form w l : ℕ) (s : List ℕ) (places words : ℕ) → AllDecided (rules_with (set_for form w l) more form w s places words)
recode_decided more d form w l s places words = (
  by (or? (dec_lt form 1) (dec_lt most_form form)),
  λ _. (
    by (or? (or? (dec_lt w least_width) (dec_lt most_width w)) (and? (ℕ_discrete form 1) (not? (ℕ_discrete w 2)))),
    λ _. (
      by (or? (not? (pair? w l)) (and? (not? (ℕ_discrete form 2)) (not? (ℕ_discrete l (largest w))))),
      λ _. (by (dec_lt 66 (length s)), λ _. decided_before more _ d (by (dec_lt places (bit_count s + 1)), λ _. (by (dec_lt words mark_words), λ _. tt))),
    ),
  ),
)

pub recode_kept_by : (form w l : ℕ) (order : Order) (s : List ℕ) → Bytes s → (digits₀ : List ℤ) (marks₀ : List ℕ) → (o : Recoding.Outcome) × Recoding.Keeps form w l order s digits₀ marks₀ o
recode_kept_by form w l order s bytes digits₀ marks₀ = let (r, p, f) = first_exists rules (recode_decided [] tt form w l s (length digits₀) (length marks₀)) in go r p f
  where
    rules : List Rule
    rules = recode_rules form w l s (length digits₀) (length marks₀)

    go : (r p : ℕ) → First rules r p → (o : Recoding.Outcome) × Recoding.Keeps form w l order s digits₀ marks₀ o
    go zero p f =
        let (a, (_, (b, _))) = clear rules tt 0 p f refl in
        let (ds, F) = form_exists w l (number order s) (bit_count s) (pair_of w l (λ h. b (inl h))).between (number_lt order s bytes) form (not_below (λ h. a (inl h))) (not_below (λ h. a (inr h))) in (
          record { tally = record { refusal = 0; place = p; weight = weight ds; top = top ds }; digits = ds ++ drop (bit_count s + 1) digits₀; marks = marks_of ds ++ drop mark_words marks₀ },
          record {
            first = f;
            accepted = λ _. record { string = ds; formed = F; digits_are = refl; marks_are = refl; weight_is = refl; top_is = refl };
            refused = λ n. absurd (n refl);
          },
        )
    go (suc r) p f = (
      record { tally = record { refusal = suc r; place = p; weight = 0; top = 0 }; digits = digits₀; marks = marks₀ },
      record { first = f; accepted = λ z. absurd (omega arith); refused = λ _. record { digits_are = refl; marks_are = refl; weight_is = refl; top_is = refl } },
    )

-- ---- recode under a group's order: what the plain call leaves, where it is accepted
group_decided : (order : Order) (s group : List ℕ) → AllDecided (group_rules order s group)
group_decided order s group =
    (by (or? (or? (ℕ_discrete (length group) 0) (ℕ_discrete (number highest_first group) 0)) (dec_lt 66 (length group))), λ _. (by (dec_le (number highest_first group) (number order s)), λ _. tt))

pub below_kept_by : (form w l : ℕ) (order : Order) (s group : List ℕ) → Bytes s → (digits₀ : List ℤ) (marks₀ : List ℕ) → (o : Recoding.Outcome) × Below.Keeps form w l order s group digits₀ marks₀ o
below_kept_by form w l order s group bytes digits₀ marks₀ =
    let (r, p, f) = first_exists rules (recode_decided (group_rules order s group) (group_decided order s group) form w l s (length digits₀) (length marks₀)) in
    go r p f (recode_kept_by form w l order s bytes digits₀ marks₀)
  where
    rules : List Rule
    rules = below_rules form w l order s group (length digits₀) (length marks₀)

    go : (r p : ℕ) → First rules r p → (o : Recoding.Outcome) × Recoding.Keeps form w l order s digits₀ marks₀ o → (o : Recoding.Outcome) × Below.Keeps form w l order s group digits₀ marks₀ o
    go zero p f (o, K) =
        let (e, q) = first_only (recode_rules form w l s (length digits₀) (length marks₀)) K.first (without_group form w l order s group (length digits₀) (length marks₀) (below_fine form w l order s group (length digits₀) (length marks₀) f refl) f) in
        (o, record { first = rw (e, q) f; accepted = K.accepted; refused = K.refused })
    go (suc r) p f _ = (
      record { tally = record { refusal = suc r; place = p; weight = 0; top = 0 }; digits = digits₀; marks = marks₀ },
      record { first = f; accepted = λ z. absurd (omega arith); refused = λ _. record { digits_are = refl; marks_are = refl; weight_is = refl; top_is = refl } },
    )

-- ---- the checks
check_decided : (w l : ℕ) (order : Order) (s : List ℕ) (ds : List ℤ) → AllDecided (check_rules w l order s ds)
check_decided w l order s ds =
    (width? w, λ _. (set? w l, λ _. (by (dec_lt 66 (length s)), λ _. (by (dec_lt 529 (length ds)), λ _. (bad? l ds, λ _. (by (not? (ℤ_discrete (worth ds) (pos (number order s)))), λ _. tt))))))

crowded? : (w : ℕ) (ds : List ℤ) → Decided (lowest 10 (Crowded w ds))
crowded? w ds = among (Crowded w ds) one (length ds) (λ p c. there p c.here)
  where
    there : (p : ℕ) → get_or ds p (pos 0) ≢ pos 0 → p < length ds
    there p n = go (dec_lt p (length ds))
      where
        go : Dec (p < length ds) → p < length ds
        go (yes h) = h
        go (no h) = absurd (n (get_or-eq_default ds (pos 0) {n = p} (omega arith)))

    -- a second nonzero digit fewer than w places above the one at p
    Second : ℕ → ℕ → Type 0
    Second p j = (p < j) × ((get_or ds p (pos 0) ≢ pos 0) × (get_or ds j (pos 0) ≢ pos 0))

    one : (p : ℕ) → Dec (Crowded w ds p)
    one p = go (search_under (Second p) (λ j. and? (dec_lt p j) (and? (not? (ℤ_discrete (get_or ds p (pos 0)) (pos 0))) (not? (ℤ_discrete (get_or ds j (pos 0)) (pos 0))))) (p + w))
      where
        go : ((j : ℕ) × (j < p + w) × Lowest (Second p) j) ⊎ ((j : ℕ) → j < p + w → Second p j → ⊥) → Dec (Crowded w ds p)
        go (inl (j, l, (c, _))) = yes (record { other = j; above = c.0; near = l; here = c.1.0; there = c.1.1 })
        go (inr f) = no (λ c. f c.other c.near (c.above, (c.here, c.there)))

nonadjacent_decided : (w l : ℕ) (order : Order) (s : List ℕ) (ds : List ℤ) → AllDecided (nonadjacent_rules w l order s ds)
nonadjacent_decided w l order s ds =
    (width? w, λ _. (set? w l, λ _. (by (dec_lt 66 (length s)), λ _. (by (dec_lt 529 (length ds)), λ _. (bad? l ds, λ _. (by (not? (ℤ_discrete (worth ds) (pos (number order s)))), λ _. (crowded? w ds, λ _. tt)))))))

judged_by : (rules : List Rule) → AllDecided rules → (ds : List ℤ) → (v : Tally) × Checking.Keeps rules ds v
judged_by rules d ds =
    let (r, p, f) = first_exists rules d in
    (record { refusal = r; place = p; weight = granted r (weight ds); top = granted r (top ds) }, record { first = f; weight_is = refl; top_is = refl })

pub check_kept_by : (w l : ℕ) (order : Order) (s : List ℕ) (ds : List ℤ) → (v : Tally) × Checking.Keeps (check_rules w l order s ds) ds v
check_kept_by w l order s ds = judged_by (check_rules w l order s ds) (check_decided w l order s ds) ds

pub nonadjacent_kept_by : (w l : ℕ) (order : Order) (s : List ℕ) (ds : List ℤ) → (v : Tally) × Checking.Keeps (nonadjacent_rules w l order s ds) ds v
nonadjacent_kept_by w l order s ds = judged_by (nonadjacent_rules w l order s ds) (nonadjacent_decided w l order s ds) ds

-- ---- tape
pub tape_kept_by : (w l : ℕ) (ds : List ℤ) (words₀ : List ℕ) → (o : Taping.Outcome) × Taping.Keeps w l ds words₀ o
tape_kept_by w l ds words₀ =
    let tape = tape_of ds in
    let (r, p, f) = first_exists (tape_rules w l ds (length words₀)) (width? w, λ _. (set? w l, λ _. (by (dec_lt 529 (length ds)), λ _. (bad? l ds, λ _. (by (dec_lt (length words₀) (length tape)), λ _. tt))))) in (
      record {
        taped = record { refusal = r; place = p; words = granted r (length tape); doublings = granted r (top ds - 1); additions = granted r (weight ds - 1) };
        words = kept r (tape ++ drop (length tape) words₀) words₀;
      },
      record { first = f; count_is = refl; doublings_are = refl; additions_are = refl; words_are = refl },
    )

-- ---- run
pub good? : (count i x : ℕ) → Dec (Good count i x)
good? count i x =
    let load = and? (dec_le 1 (code_of x)) (dec_le (code_of x) 2) in
    let first = ℕ_discrete i 0 in
    go (and? (dec_le (code_of x) 4) (and? (dec_lt (entry_of x) count) (and? (if? (ℕ_discrete (code_of x) 0) (ℕ_discrete (entry_of x) 0)) (and? (if? first load) (if? (not? first) (not? load))))))
  where
    go : Dec ((code_of x ≤ 4) × ((entry_of x < count) × ((code_of x ≡ 0 → entry_of x ≡ 0) × ((i ≡ 0 → IsLoad (code_of x)) × (i ≢ 0 → IsLoad (code_of x) → ⊥))))) → Dec (Good count i x)
    go (yes (a, (b, (c, (d, e))))) = yes (record { code = a; entry = b; double = c; first = d; later = e })
    go (no n) = no (λ g. n (g.code, (g.entry, (g.double, (g.first, g.later)))))

pub word? : (count : ℕ) (ws : List ℕ) → Decided (lowest 15 (BadWord count ws))
word? count ws = among (BadWord count ws) one (length ws) (λ p b. b.within)
  where
    one : (p : ℕ) → Dec (BadWord count ws p)
    one p = go (and? (dec_lt p (length ws)) (not? (good? count p (get_or ws p 0))))
      where
        go : Dec ((p < length ws) × (Good count p (get_or ws p 0) → ⊥)) → Dec (BadWord count ws p)
        go (yes h) = yes (record { within = h.0; bad = h.1 })
        go (no n) = no (λ b. n (b.within, b.bad))

pub run_kept_by : (w l : ℕ) (ws : List ℕ) (m g : ℕ) (multiples₀ : List ℕ) → (a : Ran) × (multiples : List ℕ) × Run w l ws m g multiples₀ a multiples
run_kept_by w l ws m g multiples₀ =
    let count = entries l in
    let rules = run_rules w l ws m (length multiples₀) in
    let (r, p, f) = first_exists rules (width? w, λ _. (set? w l, λ _. (by (ℕ_discrete m 0), λ _. (by (dec_lt 1057 (length ws)), λ _. (by (dec_lt (length multiples₀) count), λ _. (word? count ws, λ _. tt)))))) in
    by_kept rules count ws m (times (tape_value ws) g ∷ []) (cost_of count) (multiples_of count m g) multiples₀ r p f (λ z. (clear rules tt r p f z).1.1.0)

-- ---- frames
pub write_kept_by : (v : Version) (ds : List ℤ) (out₀ : List ℕ) → (o : Framed × List ℕ) × Write v ds out₀ o.0 o.1
write_kept_by v ds out₀ =
    let (r, p, f) = first_exists (write_rules v ds (length out₀)) (by (dec_lt most_places (length ds)), λ _. (by (dec_lt (length out₀) (length (line_of v ds))), λ _. tt)) in
    let line = line_of v ds in (
      (record { refusal = r; length = granted r (length line) }, kept r (line ++ drop (length line) out₀) out₀),
      record { first = plain_place (write_rules v ds (length out₀)) tt r p f; length_is = refl; out_is = refl },
    )

pub read_kept_by : (line : List ℕ) (digits₀ : List ℤ) → (o : Parsed × List ℤ) × Read line digits₀ o.0 o.1
read_kept_by line digits₀ =
    let bs = bytes_of line in
    let (r, p, f) = first_exists (read_rules line (length digits₀)) (by (flag? (unreadable line)), λ _. (by (dec_lt most_places (places_in bs)), λ _. (by (flag? (unfit bs)), λ _. (by (dec_lt (length digits₀) (places_in bs)), λ _. tt)))) in (
      (
        record { refusal = r; stated = granted r (stated line); weight = granted r (weight_in bs); top = granted r (top_in bs); places = granted r (places_in bs) },
        kept r (digits_in bs ++ drop (places_in bs) digits₀) digits₀,
      ),
      record { first = plain_place (read_rules line (length digits₀)) tt r p f; stated_is = refl; weight_is = refl; top_is = refl; places_are = refl; digits_are = refl },
    )
