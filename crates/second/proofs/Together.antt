-- The two runs together, from the promises of the calls alone. Where the run accepts a tape, its translation is refused only for the room for the words, and the run of the translation
-- only for the room for the multiples; both runs then report the same. And a string's tape, translated and run, has done the string. Assumes nothing.
use mathlib.Core.Path.{◌≡◌, sym, ap, ◌∙◌, subst}
use mathlib.Core.Logic.{◌≢◌}
use mathlib.Core.List.{List}
use Prim.Native.Nat.{ℕ, ◌*◌, ◌≤◌}
use native.Mathlib.Omega.{arith}
use lib.IntN.{ℤ, pos, ◌*ℤ◌}
use lib.ListN.{length, get_or, take}
use Rattle.laws.proofs.Choices.{not_below}
use Rattle.laws.proofs.Division.{same_floor}
use Rattle.meaning.specs.Digits.{entries}
use Rattle.meaning.specs.Sets.{Pair}
use Rattle.meaning.specs.Words.{most_words}
use Rattle.meaning.specs.Walks.{tape_value, doublings, additions}
use Rattle.meaning.specs.Taping as Taping
use Rattle.meaning.specs.Taping.{tape_of, Tape}
use Rattle.meaning.specs.Multiples.{cost_of}
use Rattle.meaning.specs.Running.{Residue, run_rules, Ran, Run}
use Rattle.meaning.specs.SecondChip.{translation, translate_rules, Translated, Translate, second_rules, RunSecond}
use Rattle.forms.proofs.Refusals.{first_only, first_none, clear, granted_all}
use Rattle.width.proofs.Widths.{set_fine, pair_of, pair_sized, entries_some}
use Rattle.walk.proofs.Lengths.{tape_fits}
use Rattle.walk.proofs.Tapes.{Faithful, faithful, tape_good}
use Rattle.walk.proofs.Translation.{AllGood, translation_length, value_translated, good_translated, counts_translated}
use Rattle.tape.proofs.Refusals as Tapes
use Rattle.run.proofs.Words.{good_of}
use Rattle.run.proofs.Together.{Done}
use Rattle.second.proofs.Translates.{written_words}

-- ---- a tape that is fine, translated and run
pub record Fine (w l : ℕ) (ws : List ℕ) : Type 0 where
  pub pair : Pair w l
  pub short : length ws ≤ most_words
  pub good : AllGood (entries l) ws

module _ (w l : ℕ) {ws words₀ words : List ℕ} {t : Translated} (fine : Fine w l ws) (T : Translate w l ws words₀ t words) where
  abbrev count : ℕ
  count = entries l

  -- the translation is refused only for the room for its words
  pub translates : length ws ≤ length words₀ → t.refusal ≡ 0
  translates room =
      let rules = translate_rules w l ws (length words₀) in
      (first_only rules T.first
      (first_none rules
      ((set_fine fine.pair).0, ((set_fine fine.pair).1, ((λ h. omega (arith, fine.short)), ((λ p b. b.bad (fine.good p b.within)), ((λ h. omega arith), tt))))))).0

  few : 2 * count ≤ 4096
  few = omega (arith, (entries_some fine.pair).1)

  module _ (z : t.refusal ≡ 0) {m g : ℕ} {stored₀ stored : List ℕ} {b : Ran} (S : RunSecond w l (take t.words words) m g stored₀ b stored) where
    run : RunSecond w l (translation count ws) m g stored₀ b stored
    run = subst (λ xs. RunSecond w l xs m g stored₀ b stored) (written_words w l T z) S

    -- its run is refused only for the modulus or the room for the multiples
    pub runs : m ≢ 0 → 2 * count ≤ length stored₀ → b.refusal ≡ 0
    runs some room =
        let rules = second_rules w l (translation count ws) m (length stored₀) in
        (first_only rules run.first
        (first_none rules
        ((set_fine fine.pair).0, ((set_fine fine.pair).1, (some, ((λ h. omega (arith, fine.short, translation_length count ws)), ((λ h. omega arith), ((λ p b. b.bad (good_translated count few ws fine.good p b.within)), tt)))))))).0

    -- and what it reports is of the source's words
    pub record Carried : Type 0 where
      pub residue_is : Residue m (tape_value ws *ℤ pos g) b.residue
      pub doublings_are : b.doublings ≡ doublings ws
      pub additions_are : b.additions ≡ additions ws
      pub cost_doublings_are : b.cost.doublings ≡ (cost_of count).doublings
      pub cost_additions_are : b.cost.additions ≡ (cost_of count).additions

    pub carries : b.refusal ≡ 0 → Carried
    carries e =
        let (d, k) = counts_translated count few ws fine.good in
        record {
          residue_is = subst (λ v. Residue m (v *ℤ pos g) b.residue) (value_translated count few ws (λ i h. (fine.good i h).entry)) (run.residue_is e);
          doublings_are = run.doublings_are ∙ granted_all b.refusal (doublings (translation count ws)) e ∙ d;
          additions_are = run.additions_are ∙ granted_all b.refusal (additions (translation count ws)) e ∙ k;
          cost_doublings_are = run.cost_doublings_are ∙ granted_all b.refusal (cost_of count).doublings e;
          cost_additions_are = run.cost_additions_are ∙ granted_all b.refusal (cost_of count).additions e;
        }

-- ---- a tape that the run accepts
-- what both runs report
pub record Same (a b : Ran) : Type 0 where
  pub residue_is : b.residue ≡ a.residue
  pub doublings_are : b.doublings ≡ a.doublings
  pub additions_are : b.additions ≡ a.additions
  pub cost_doublings_are : b.cost.doublings ≡ a.cost.doublings
  pub cost_additions_are : b.cost.additions ≡ a.cost.additions

module _ (w l : ℕ) {m g : ℕ} {ws multiples₀ multiples words₀ words : List ℕ} {a : Ran} {t : Translated} (R : Run w l ws m g multiples₀ a multiples) (z : a.refusal ≡ 0) (T : Translate w l ws words₀ t words) where
  cleared : (m ≢ 0) × Fine w l ws
  cleared =
      let (width, (set, (some, (long, (room, (bad, _)))))) = clear (run_rules w l ws m (length multiples₀)) tt a.refusal a.place R.first z in
      (some, record { pair = pair_of w l set; short = not_below long; good = λ i h. good_of (entries l) i (get_or ws i 0) (λ n. bad i (record { within = h; bad = n })) })

  -- the translation is accepted into room enough
  pub translation_accepted : length ws ≤ length words₀ → t.refusal ≡ 0
  translation_accepted = translates w l cleared.1 T

  module _ (y : t.refusal ≡ 0) {stored₀ stored : List ℕ} {b : Ran} (S : RunSecond w l (take t.words words) m g stored₀ b stored) where
    -- and so is its run
    pub second_accepted : 2 * entries l ≤ length stored₀ → b.refusal ≡ 0
    second_accepted = runs w l cleared.1 T y S cleared.0

    -- with the same report
    pub second_same : b.refusal ≡ 0 → Same a b
    second_same e =
        let C = carries w l cleared.1 T y S e in
        let x = R.residue_is z in
        let v = C.residue_is in
        record {
          residue_is = (same_floor m v.quotient x.quotient b.residue a.residue (sym v.is ∙ x.is) v.least x.least).1;
          doublings_are = C.doublings_are ∙ sym (R.doublings_are ∙ granted_all a.refusal (doublings ws) z);
          additions_are = C.additions_are ∙ sym (R.additions_are ∙ granted_all a.refusal (additions ws) z);
          cost_doublings_are = C.cost_doublings_are ∙ sym (R.cost_doublings_are ∙ granted_all a.refusal (cost_of (entries l)).doublings z);
          cost_additions_are = C.cost_additions_are ∙ sym (R.cost_additions_are ∙ granted_all a.refusal (cost_of (entries l)).additions z);
        }

-- ---- a string's tape
module _
    (w l : ℕ) {ds : List ℤ} {words₀ words chips₀ chips : List ℕ} {a : Taping.Taped} {t : Translated} (K : Tape w l ds words₀ a words) (z : a.refusal ≡ 0)
    (T : Translate w l (take a.words words) chips₀ t chips) where
  string_fine : Fine w l (take a.words words)
  string_fine =
      let s = Tapes.accepted w l K z in
      let (one, few) = pair_sized s.pair in
      subst (Fine w l) (sym (Tapes.written_words w l K z)) (record { pair = s.pair; short = tape_fits ds s.short; good = tape_good l one few ds s.sound })

  -- is translated wherever there is room for its words
  pub string_translated : a.words ≤ length chips₀ → t.refusal ≡ 0
  string_translated room =
      translates w l string_fine T (omega (arith, ap length (Tapes.written_words w l K z), K.count_is ∙ granted_all a.refusal (length (tape_of ds)) z))

  -- and its run has done the string: its worth times the base, a doubling for each place under the highest nonzero digit, an addition fewer than the nonzero digits
  pub string_done : {m g : ℕ} {multiples₀ multiples : List ℕ} {b : Ran} (y : t.refusal ≡ 0) → RunSecond w l (take t.words chips) m g multiples₀ b multiples → b.refusal ≡ 0 → Done m g ds b
  string_done {m} {g} {b = b} y S e =
      let C = carries w l string_fine T y S e in
      let s = Tapes.accepted w l K z in
      let words_are = Tapes.written_words w l K z in
      let (one, few) = pair_sized s.pair in
      let F : Faithful l one few ds = faithful l one few ds s.sound in
      record {
        residue_is = subst (λ v. Residue m (v *ℤ pos g) b.residue) (ap tape_value words_are ∙ F.value_is) C.residue_is;
        doublings_are = C.doublings_are ∙ ap doublings words_are ∙ F.doublings_are;
        additions_are = C.additions_are ∙ ap additions words_are ∙ F.additions_are;
      }
