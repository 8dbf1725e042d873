-- With the set of a whole width each call's promise is the one that speaks of the width alone. A byte that is no width has no set, and any largest digit may stand beside
-- it: 2 is given before. Assumes nothing.
use mathlib.Core.Path.{◌≡◌, sym, ap, ◌∙◌}
use mathlib.Core.Logic.{◌↔◌, inl, inr, ⊎_elim}
use mathlib.Core.List.{List, [], ◌∷◌, ◌++◌}
use Prim.Native.Nat.{ℕ, ◌≤◌}
use native.Mathlib.Omega.{arith}
use native.Mathlib.Decide.{ℕ_discrete}
use lib.IntN.{ℤ}
use lib.ListN.{length, drop}
use Rattle.laws.proofs.Choices.{not_below}
use Rattle.meaning.specs.Scalars.{Order, number, bit_count}
use Rattle.meaning.specs.Digits.{least_width, most_width, largest, entries, Tally}
use Rattle.meaning.specs.Sets.{Pair}
use Rattle.meaning.specs.Forms.{Strings, Form, FormIn}
use Rattle.meaning.specs.Refusals.{Rule, First, Fails, bad_width, bad_set, set_rules}
use Rattle.meaning.specs.Recoding.{form_rules, set_for, rules_with, group_rules, RecodeBy, Recode, RecodeBelow}
use Rattle.meaning.specs.Checking.{worth_rules, spaced_rules, check_rules, nonadjacent_rules, Check}
use Rattle.meaning.specs.Multiples.{cost_of}
use Rattle.meaning.specs.Taping.{Taped, room_rules, TapeBy, Tape}
use Rattle.meaning.specs.Running.{Ran, step_rules, multiples_of, RunOver, Run}
use Rattle.meaning.specs.Whole.{RecodeWhole, BelowWhole, CheckWhole, NonadjacentWhole, TapeWhole, RunWhole}
use Rattle.forms.proofs.Made.{least_pair}
use Rattle.forms.proofs.Forms.{form_whole}
use Rattle.forms.proofs.Refusals.{Clear, clear, first_with, first_without, granted_none, kept_lent}

module _ (w m : ℕ) (whole : least_width ≤ w → w ≤ most_width → m ≡ largest w) where
  -- ---- a width has its set
  wide : Fails (bad_width w) → (least_width ≤ w) × (w ≤ most_width)
  wide n = (not_below (λ h. n (inl h)), not_below (λ h. n (inr h)))

  same : Fails (bad_width w) → m ≡ largest w
  same n = let (l, h) = wide n in whole l h

  pair : Fails (bad_width w) → Pair w m
  pair n = let (l, h) = wide n in rw (same n) (least_pair w l h)

  -- ---- rules that begin with those of the set
  module _ (ys : ℕ → List Rule) (r p : ℕ) where
    to_whole : First (set_rules w m ++ ys m) r p → First (bad_width w ∷ ys (largest w)) r p
    to_whole f = go (first_without (bad_width w ∷ []) (bad_set w m ∷ []) (ys m) r p (λ c. ((λ n. n (pair c.0)), tt)) f)
      where
        go : First (bad_width w ∷ ys m) r p → First (bad_width w ∷ ys (largest w)) r p
        go (inl h) = inl h
        go (inr (n, g)) = inr (n, rw (same n) at g)

    of_whole : First (bad_width w ∷ ys (largest w)) r p → First (set_rules w m ++ ys m) r p
    of_whole f = first_with (bad_width w ∷ []) (bad_set w m ∷ []) (ys m) r p (λ c. ((λ n. n (pair c.0)), tt)) (go f)
      where
        go : First (bad_width w ∷ ys (largest w)) r p → First (bad_width w ∷ ys m) r p
        go (inl h) = inl h
        go (inr (n, g)) = inr (n, rw (same n) g)

  -- ---- the checks
  pub check_whole : (o : Order) (s : List ℕ) (ds : List ℤ) (a : Tally) → Check (check_rules w m o s ds) ds a ↔ CheckWhole w o s ds a
  check_whole o s ds a = (
    λ c. record { first = to_whole (λ l. worth_rules l o s ds) _ _ c.first; weight_is = c.weight_is; top_is = c.top_is },
    λ c. record { first = of_whole (λ l. worth_rules l o s ds) _ _ c.first; weight_is = c.weight_is; top_is = c.top_is },
  )

  pub nonadjacent_whole : (o : Order) (s : List ℕ) (ds : List ℤ) (a : Tally) → Check (nonadjacent_rules w m o s ds) ds a ↔ NonadjacentWhole w o s ds a
  nonadjacent_whole o s ds a = (
    λ c. record { first = to_whole (λ l. worth_rules l o s ds ++ spaced_rules w ds) _ _ c.first; weight_is = c.weight_is; top_is = c.top_is },
    λ c. record { first = of_whole (λ l. worth_rules l o s ds ++ spaced_rules w ds) _ _ c.first; weight_is = c.weight_is; top_is = c.top_is },
  )

  -- ---- tape
  pub tape_whole : (ds : List ℤ) (words₀ : List ℕ) (a : Taped) (words : List ℕ) → Tape w m ds words₀ a words ↔ TapeWhole w ds words₀ a words
  tape_whole ds words₀ a words = (λ t. by t (to_whole (λ l. room_rules l ds (length words₀)) _ _ t.first), λ t. by t (of_whole (λ l. room_rules l ds (length words₀)) _ _ t.first))
    where
      by : {xs ys : List Rule} → TapeBy xs ds words₀ a words → First ys a.refusal a.place → TapeBy ys ds words₀ a words
      by t f = record { first = f; count_is = t.count_is; doublings_are = t.doublings_are; additions_are = t.additions_are; words_are = t.words_are }

  -- ---- run: a refusal has no count of multiples
  pub run_whole : (ws : List ℕ) (n g : ℕ) (multiples₀ : List ℕ) (a : Ran) (multiples : List ℕ) → Run w m ws n g multiples₀ a multiples ↔ RunWhole w ws n g multiples₀ a multiples
  run_whole ws n g multiples₀ a multiples = (
    λ t. let f = to_whole rules _ _ t.first in by t f (counted f),
    λ t. by t (of_whole rules _ _ t.first) (λ z. sym (counted t.first z)),
  )
    where
      rules : ℕ → List Rule
      rules l = step_rules (entries l) ws n (length multiples₀)

      counted : First (bad_width w ∷ rules (largest w)) a.refusal a.place → a.refusal ≡ 0 → entries m ≡ entries (largest w)
      counted f z = ap entries (same (clear (bad_width w ∷ rules (largest w)) tt _ _ f z).0)

      by : {xs ys : List Rule} {b c : ℕ} → RunOver xs b ws n g multiples₀ a multiples → First ys a.refusal a.place → (a.refusal ≡ 0 → b ≡ c) → RunOver ys c ws n g multiples₀ a multiples
      by {ys = ys} {b = b} {c = c} t f e = go (ℕ_discrete a.refusal 0)
        where
          go : Dec (a.refusal ≡ 0) → RunOver ys c ws n g multiples₀ a multiples
          go (yes z) = record {
            first = f;
            residue_is = t.residue_is;
            residue_none = t.residue_none;
            doublings_are = t.doublings_are;
            additions_are = t.additions_are;
            cost_doublings_are = rw (← e z) t.cost_doublings_are;
            cost_additions_are = rw (← e z) t.cost_additions_are;
            multiples_are = rw (← e z) t.multiples_are;
          }
          go (no o) = record {
            first = f;
            residue_is = t.residue_is;
            residue_none = t.residue_none;
            doublings_are = t.doublings_are;
            additions_are = t.additions_are;
            cost_doublings_are = t.cost_doublings_are ∙ granted_none a.refusal (cost_of b).doublings o ∙ sym (granted_none a.refusal (cost_of c).doublings o);
            cost_additions_are = t.cost_additions_are ∙ granted_none a.refusal (cost_of b).additions o ∙ sym (granted_none a.refusal (cost_of c).additions o);
            multiples_are =
                t.multiples_are ∙ kept_lent a.refusal (multiples_of b n g ++ drop b multiples₀) multiples₀ o ∙ sym (kept_lent a.refusal (multiples_of c n g ++ drop c multiples₀) multiples₀ o);
          }

  -- ---- recode: the set's rule falls away, and wNAF is the width's
  module _ (form : ℕ) where
    fits : Clear (form_rules form w) → Clear (set_for form w m)
    fits c =
        let n : Fails (bad_width w) = λ h. c.1.0 (inl h) in
        (⊎_elim (λ h. h (pair n)) (λ h. h.1 (same n)), tt)

    module _ (more : List Rule) (o : Order) (s : List ℕ) (digits₀ : List ℤ) (marks₀ : List ℕ) (a : Tally) (digits : List ℤ) (marks : List ℕ) where
      abbrev plain : List Rule
      plain = rules_with [] more form w s (length digits₀) (length marks₀)

      -- where no rule applies, the width is one
      accepted : First plain a.refusal a.place → a.refusal ≡ 0 → Fails (bad_width w)
      accepted (inl (e, h)) z = absurd (omega arith)
      accepted (inr (n, inl (e, h))) z = absurd (omega arith)
      accepted (inr (n, inr (k, g))) z = λ h. k (inl h)

      -- another list of rules, and another name for the string
      by : (xs ys : List Rule) (A B : Strings) → RecodeBy xs A o s digits₀ marks₀ a digits marks → First ys a.refusal a.place
          → (a.refusal ≡ 0 → (ds : List ℤ) → A (number o s) (bit_count s) ds → B (number o s) (bit_count s) ds) → RecodeBy ys B o s digits₀ marks₀ a digits marks
      by xs ys A B t f g =
          record {
            first = f;
            accepted = λ z. let r = t.accepted z in record {
              string = r.string;
              formed = g z r.string r.formed;
              digits_are = r.digits_are;
              marks_are = r.marks_are;
              weight_is = r.weight_is;
              top_is = r.top_is;
            };
            refused = t.refused;
          }

      by_whole : RecodeBy (rules_with (set_for form w m) more form w s (length digits₀) (length marks₀)) (FormIn form w m) o s digits₀ marks₀ a digits marks
          ↔ RecodeBy plain (Form form w) o s digits₀ marks₀ a digits marks
      by_whole = (
        λ t.
            let f = first_without (form_rules form w) (set_for form w m) (drop 2 plain) _ _ fits t.first in
            by _ plain (FormIn form w m) (Form form w) t f (λ z ds h. let n = accepted f z in (form_whole w (number o s) (bit_count s) (wide n).0 form ds).0 (rw (same n) at h)),
        λ t.
            by plain _ (Form form w) (FormIn form w m) t (first_with (form_rules form w) (set_for form w m) (drop 2 plain) _ _ fits t.first)
            (λ z ds h. let n = accepted t.first z in rw (same n) ((form_whole w (number o s) (bit_count s) (wide n).0 form ds).1 h)),
      )

    pub recode_whole : (o : Order) (s : List ℕ) (digits₀ : List ℤ) (marks₀ : List ℕ) (a : Tally) (digits : List ℤ) (marks : List ℕ)
        → Recode form w m o s digits₀ marks₀ a digits marks ↔ RecodeWhole form w o s digits₀ marks₀ a digits marks
    recode_whole o s digits₀ marks₀ a digits marks = by_whole [] o s digits₀ marks₀ a digits marks

    pub below_whole : (o : Order) (s group : List ℕ) (digits₀ : List ℤ) (marks₀ : List ℕ) (a : Tally) (digits : List ℤ) (marks : List ℕ)
        → RecodeBelow form w m o s group digits₀ marks₀ a digits marks ↔ BelowWhole form w o s group digits₀ marks₀ a digits marks
    below_whole o s group digits₀ marks₀ a digits marks = by_whole (group_rules o s group) o s digits₀ marks₀ a digits marks
