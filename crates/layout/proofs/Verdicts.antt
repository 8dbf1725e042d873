-- The verdict on a line of a damaged file: it is the first rule that applies; a line is kept exactly when it is read without refusal, and its
-- capitals are judged as it is. What is kept of a line, and what is said of it. Assumes nothing.
use mathlib.Core.Path.{◌≡◌, refl, sym, ap, ◌∙◌}
use mathlib.Core.Logic.{◌≢◌, inl, inr}
use mathlib.Core.Bool.{Bool, true, false, cond}
use mathlib.Core.List.{List, [], ◌∷◌, ◌++◌}
use Prim.Native.Nat.{ℕ, ◌<◌, ◌≤◌}
use native.Mathlib.Decide.{dec_lt, dec_le}
use native.Mathlib.Omega.{arith}
use lib.Dec.{ltb}
use lib.ListN.{length, take, length-take}
use lib.Seq.{take_all}
use borrow.Author.Tests.{lt-ltb, le-ltb, ltb-true, ltb-false, ne_eqb}
use Rattle.meaning.specs.Digits.{most_places}
use Rattle.meaning.specs.Refusals.{First}
use Rattle.meaning.specs.Lines.{line_feed}
use Rattle.meaning.specs.Hexadecimal.{in_pairs, bytes_of, in_capitals, has_small}
use Rattle.meaning.specs.Frames.{places_in, stated, unreadable, unfit, read_rules}
use Rattle.meaning.specs.Salvage.{most_line, salvage_rules, verdict, kept_line, dropped, case_only, remarks}
use Rattle.forms.proofs.Refusals.{first_only}
use Rattle.hexadecimal.proofs.Capitals.{capitals_length, capitals_hex, capitals_bytes}
use Rattle.layout.proofs.Frames.{no_flag, Good, good_none, none_good, good_length}

module _ (line : List ℕ) where
  abbrev places : ℕ
  places = places_in (bytes_of line)

  -- ---- the verdict is the first rule's number
  -- of reading into 529 places or more, where the line is short enough
  judged : (lent : ℕ) → most_places ≤ lent → (a b c : Bool) → unreadable line ≡ a → ltb most_places places ≡ b → unfit (bytes_of line) ≡ c
      → First (read_rules line lent) (cond a 16 (cond b 7 (cond c 21 0))) 0
  judged lent e true b c u m k = inl (refl, (rw u tt, refl))
  judged lent e false true c u m k = inr (no_flag u, inl (refl, (ltb-true most_places places m, refl)))
  judged lent e false false true u m k = inr (no_flag u, inr ((λ h. omega (arith, ltb-false most_places places m)), inl (refl, (rw k tt, refl))))
  judged lent e false false false u m k =
      let few = ltb-false most_places places m in
      inr (no_flag u, inr ((λ h. omega (arith, few)), inr (no_flag k, inr ((λ h. omega (arith, few)), (refl, refl)))))

  pub verdict_short : (lent : ℕ) → most_places ≤ lent → length line ≤ most_line → First (read_rules line lent) (verdict line) 0
  unfolding verdict
  verdict_short lent e h = rw (le-ltb most_line (length line) h) (judged lent e (unreadable line) (ltb most_places places) (unfit (bytes_of line)) refl refl refl)

  pub verdict_long : most_line < length line → verdict line ≡ 16
  unfolding verdict
  verdict_long h = rw (lt-ltb most_line (length line) h)

  pub verdict_first : First (salvage_rules line) (verdict line) 0
  verdict_first = go (dec_lt most_line (length line))
    where
      go : Dec (most_line < length line) → First (salvage_rules line) (verdict line) 0
      go (yes h) = inl (verdict_long h, (h, refl))
      go (no h) = inr (h, verdict_short most_places (omega arith) (omega arith))

  -- a kept line is short enough
  pub kept_short : verdict line ≡ 0 → length line ≤ most_line
  kept_short e = go (dec_lt most_line (length line))
    where
      go : Dec (most_line < length line) → length line ≤ most_line
      go (yes h) = absurd (omega (arith, verdict_long h))
      go (no h) = omega arith

  -- ---- a line is kept exactly when it is read without refusal into 529 places: the tool's own 16 drops no good line
  pub kept_good : verdict line ≡ 0 → Good line most_places
  kept_good e = none_good line most_places (verdict line) (verdict_short most_places (omega arith) (kept_short e)) e

  pub good_kept : Good line most_places → verdict line ≡ 0
  good_kept g = (first_only (read_rules line most_places) (verdict_short most_places (omega arith) (good_length line most_places g)) (good_none line most_places g)).0

-- ---- what is kept of a line, and what is said of it
module _ (k : ℕ) (line : List ℕ) where
  pub dropped_kept : verdict line ≢ 0 → kept_line line ≡ []
  unfolding kept_line
  dropped_kept n = rw (ne_eqb (verdict line) 0 n)

  pub dropped_said : verdict line ≢ 0 → remarks k line ≡ (k, dropped (verdict line)) ∷ []
  unfolding remarks
  dropped_said n = rw (ne_eqb (verdict line) 0 n)

  module _ (e : verdict line ≡ 0) where
    pub good_line : kept_line line ≡ in_capitals line ++ (line_feed ∷ [])
    unfolding kept_line
    good_line = rw e

    pub small_said : has_small line ≡ true → remarks k line ≡ (k, case_only) ∷ []
    unfolding remarks
    small_said s = rw (e, s)

    pub nothing_said : has_small line ≡ false → remarks k line ≡ []
    unfolding remarks
    nothing_said s = rw (e, s)

-- of a line that is cut, but not before it is too long, the same
pub cut_same : (n : ℕ) (line : List ℕ) → most_line < n → (kept_line (take n line) ≡ kept_line line) × ((k : ℕ) → remarks k (take n line) ≡ remarks k line)
cut_same n line most = go (dec_le (length line) n)
  where
    go : Dec (length line ≤ n) → (kept_line (take n line) ≡ kept_line line) × ((k : ℕ) → remarks k (take n line) ≡ remarks k line)
    go (yes h) = rw (take_all n line h) (refl, λ k. refl)
    go (no h) =
        let a : verdict line ≡ 16 = verdict_long line (omega arith) in
        let b : verdict (take n line) ≡ 16 = verdict_long (take n line) (omega (arith, length-take n line)) in
        let x : verdict line ≢ 0 = λ e. omega arith in
        let y : verdict (take n line) ≢ 0 = λ e. omega arith in (
          dropped_kept 0 (take n line) y ∙ sym (dropped_kept 0 line x),
          λ k. dropped_said k (take n line) y ∙ ap (λ v. (k, dropped v) ∷ []) (b ∙ sym a) ∙ sym (dropped_said k line x),
        )

-- ---- a line in capitals has the verdict of the line
pub verdict_capitals : (line : List ℕ) → verdict (in_capitals line) ≡ verdict line
unfolding verdict unreadable stated in_pairs
verdict_capitals line = rw (capitals_bytes line, capitals_hex line, capitals_length line)
