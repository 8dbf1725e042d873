-- The promises of the translation to the chip without subtraction and of the run of its words: two outcomes that satisfy one of them for one input are equal, on the plain numbers, on the
-- answer itself and on C's struct; each number exactly when; a refusal leaves the buffer. Some outcome keeps each at every input, and wrong answers are ruled out. Assumes nothing.
use mathlib.Core.Path.{◌≡◌, refl, sym, ap, ◌∙◌}
use mathlib.Core.Logic.{◌≢◌}
use mathlib.Core.List.{List, [], ◌∷◌, ◌++◌, map}
use Prim.Native.Nat.{ℕ, zero, suc, ◌*◌, ◌<◌}
use native.Mathlib.Decide.{dec_lt, ℕ_discrete}
use native.Mathlib.Omega.{arith}
use lib.Dec.{lit<, lit≤}
use lib.ListN.{length, get_or, drop}
use Rattle.std.specs.Prelude.{Result, Ok, Err}
use Rattle.meaning.specs.Digits.{entries}
use Rattle.meaning.specs.Sets.{Pair}
use Rattle.meaning.specs.Refusals.{Rule, lowest, granted, kept}
use Rattle.meaning.specs.Words.{most_words, code_of, plus, Step, double, load, add, bad, step_of, word_of}
use Rattle.meaning.specs.Walks.{Good}
use Rattle.meaning.specs.Multiples.{making_of, cost_additions, cost_of}
use Rattle.meaning.specs.Running as Running
use Rattle.meaning.specs.Running.{Taking, times}
use Rattle.meaning.specs.SecondChip as SecondChip
use Rattle.meaning.specs.SecondChip.{second_value, translation, translate_rules, Translate, SecondGood, SecondBad, second_rules, second_multiples_of, RunSecond}
use Rattle.forms.proofs.Refusals.{first_only, clear, granted_all, kept_lent, kept_written}
use Rattle.width.proofs.Widths.{set_fine, whole_pair}
use Rattle.refusals.specs.declared.Reason.{Reason}
use Rattle.refusals.specs.declared.Refusal.{Refusal}
use Rattle.refusals.proofs.Coded.{coded_some, refusal_same}
use Rattle.run.specs.declared.Ran.{Ran}
use Rattle.run.specs.Outcomes.{answer}
use Rattle.second.specs.declared.Translated.{Translated}
use Rattle.second.specs.Promises.{answered, translated, Promise}
use Rattle.sarvundole.specs.declared.exported.Ran as Exported
use Rattle.sarvundole.specs.Runs.{ran}
use Rattle.promises.proofs.Exactly.{Exactly, exactly}
use Rattle.promises.proofs.Run.{answer_same, by_same, by_kept}
use Rattle.promises.proofs.Exported.{c_ran_same}
use Rattle.promises.proofs.Instances.{Decided, first_exists, by, among, and?, not?, width?, set?, good?, word?}

-- ---- the translation
-- answers are equal by their fields
told : (r p n : ℕ) → SecondChip.Translated
told r p n = record { refusal = r; place = p; words = n }

-- a count of words, or a refusal, which has no number 0
translated_same : (a b : Result ℕ Refusal) → answered a ≡ answered b → a ≡ b
translated_same (Ok n) (Ok k) q = ap Ok (ap (λ (x : SecondChip.Translated). x.words) q)
translated_same (Ok n) (Err g) q = absurd (coded_some g.reason (sym (ap (λ (x : SecondChip.Translated). x.refusal) q)))
translated_same (Err f) (Ok k) q = absurd (coded_some f.reason (ap (λ (x : SecondChip.Translated). x.refusal) q))
translated_same (Err f) (Err g) q = ap Err (refusal_same f g (ap (λ (x : SecondChip.Translated). x.refusal) q) (ap (λ (x : SecondChip.Translated). x.place) q))

module _ (w l : ℕ) (ws words₀ : List ℕ) where
  abbrev translating : List Rule
  translating = translate_rules w l ws (length words₀)

  abbrev made : List ℕ
  made = translation (entries l) ws ++ drop (length ws) words₀

  pub translate_plain : (a b : SecondChip.Translated) (us vs : List ℕ) → Translate w l ws words₀ a us → Translate w l ws words₀ b vs → (a ≡ b) × (us ≡ vs)
  unfolding told
  translate_plain a b us vs K L =
      let (r, p) = first_only translating K.first L.first in
      let n = K.count_is ∙ ap (λ t. granted t (length ws)) r ∙ sym L.count_is in
      let same : told a.refusal a.place a.words ≡ told b.refusal b.place b.words = cc in
      (same, K.words_are ∙ ap (λ t. kept t made words₀) r ∙ sym L.words_are)

  -- on the answer itself
  pub translate_determined : (a b : Result ℕ Refusal) (us vs : List ℕ) → Translate w l ws words₀ (answered a) us → Translate w l ws words₀ (answered b) vs → (a ≡ b) × (us ≡ vs)
  translate_determined a b us vs K L = let (q, e) = translate_plain (answered a) (answered b) us vs K L in (translated_same a b q, e)

  -- and on C's struct
  pub c_translate_determined : (a b : Translated) (us vs : List ℕ) → Translate w l ws words₀ (translated a) us → Translate w l ws words₀ (translated b) vs → (a ≡ b) × (us ≡ vs)
  c_translate_determined a b us vs K L = let (q, e) = translate_plain (translated a) (translated b) us vs K L in (ap struct q, e)
    where
      struct : SecondChip.Translated → Translated
      struct t = record { refusal = t.refusal; place = t.place; words = t.words }

  module _ (a : SecondChip.Translated) (us : List ℕ) (K : Translate w l ws words₀ a us) where
    pub translate_exactly : Exactly translating a.refusal a.place
    translate_exactly = exactly translating tt a.refusal a.place K.first

    pub translate_kept : a.refusal ≢ 0 → us ≡ words₀
    translate_kept n = K.words_are ∙ kept_lent a.refusal made words₀ n

  -- some outcome keeps it
  pub translate_kept_by : (a : SecondChip.Translated) × (us : List ℕ) × Translate w l ws words₀ a us
  translate_kept_by =
      let (r, p, f) = first_exists translating (width? w, λ _. (set? w l, λ _. (by (dec_lt most_words (length ws)), λ _. (word? (entries l) ws, λ _. (by (dec_lt (length words₀) (length ws)), λ _. tt))))) in
      (record { refusal = r; place = p; words = granted r (length ws) }, kept r made words₀, record { first = f; count_is = refl; words_are = refl })

-- ---- the run
second_good? : (count i x : ℕ) → Dec (SecondGood count i x)
second_good? count i x = go (and? (good? count i x) (and? (not? (ℕ_discrete (code_of x) 2)) (not? (ℕ_discrete (code_of x) 4))))
  where
    go : Dec (Good count i x × ((code_of x ≢ 2) × (code_of x ≢ 4))) → Dec (SecondGood count i x)
    go (yes (g, (a, b))) = yes (record { good = g; no_load_negated = a; no_subtraction = b })
    go (no n) = no (λ s. n (s.good, (s.no_load_negated, s.no_subtraction)))

second_word? : (count : ℕ) (ws : List ℕ) → Decided (lowest 15 (SecondBad count ws))
second_word? count ws = among (SecondBad count ws) one (length ws) (λ p b. b.within)
  where
    one : (p : ℕ) → Dec (SecondBad count ws p)
    one p = go (and? (dec_lt p (length ws)) (not? (second_good? count p (get_or ws p 0))))
      where
        go : Dec ((p < length ws) × (SecondGood count p (get_or ws p 0) → ⊥)) → Dec (SecondBad count ws p)
        go (yes h) = yes (record { within = h.0; bad = h.1 })
        go (no n) = no (λ b. n (b.within, b.bad))

module _ (w l : ℕ) (ws : List ℕ) (m g : ℕ) (multiples₀ : List ℕ) where
  abbrev rules : List Rule
  rules = second_rules w l ws m (length multiples₀)

  abbrev count : ℕ
  count = entries l

  abbrev sum : List Taking
  sum = times (second_value count ws) g ∷ []

  pub run_second_plain : (a b : Running.Ran) (ms ns : List ℕ) → RunSecond w l ws m g multiples₀ a ms → RunSecond w l ws m g multiples₀ b ns → (a ≡ b) × (ms ≡ ns)
  run_second_plain = by_same rules (2 * count) ws m sum (cost_of count) (second_multiples_of count m g) multiples₀

  -- on the answer itself
  pub run_second_determined : (a b : Result Ran Refusal) (ms ns : List ℕ) → Promise w l ws m g multiples₀ a ms → Promise w l ws m g multiples₀ b ns → (a ≡ b) × (ms ≡ ns)
  run_second_determined a b ms ns P Q = let (q, e) = run_second_plain (answer a) (answer b) ms ns P Q in (answer_same a b q, e)

  -- and on C's struct
  pub c_run_second_determined : (a b : Exported.Ran) (ms ns : List ℕ) → RunSecond w l ws m g multiples₀ (ran a) ms → RunSecond w l ws m g multiples₀ (ran b) ns → (a ≡ b) × (ms ≡ ns)
  c_run_second_determined a b ms ns K L = let (q, e) = run_second_plain (ran a) (ran b) ms ns K L in (c_ran_same a b q, e)

  module _ (a : Running.Ran) (ms : List ℕ) (K : RunSecond w l ws m g multiples₀ a ms) where
    pub run_second_exactly : Exactly rules a.refusal a.place
    run_second_exactly = exactly rules tt a.refusal a.place K.first

    pub run_second_kept : a.refusal ≢ 0 → ms ≡ multiples₀
    run_second_kept n = K.multiples_are ∙ kept_lent a.refusal _ multiples₀ n

  -- some outcome keeps it
  pub run_second_kept_by : (a : Running.Ran) × (ms : List ℕ) × RunSecond w l ws m g multiples₀ a ms
  run_second_kept_by =
      let (r, p, f) = first_exists rules (width? w, λ _. (set? w l, λ _. (by (ℕ_discrete m 0), λ _. (by (dec_lt most_words (length ws)), λ _. (by (dec_lt (length multiples₀) (2 * count)), λ _. (second_word? (2 * count) ws, λ _. tt)))))) in
      by_kept rules (2 * count) ws m sum (cost_of count) (second_multiples_of count m g) multiples₀ r p f (λ z. (clear rules tt r p f z).1.1.0)

-- ---- calls that cannot keep the promises
-- width 2 has one entry
two : Pair 2 1
two = whole_pair (lit≤ tt, lit≤ tt)

-- an outcome for every input which keeps the translation's promise
pub record Translator : Type 0 where
  pub call : (w l : ℕ) (ws words₀ : List ℕ) → SecondChip.Translated × List ℕ
  pub keeps : (w l : ℕ) (ws words₀ : List ℕ) → Translate w l ws words₀ (call w l ws words₀).0 (call w l ws words₀).1

-- there is one
pub translator : Translator
translator = record { call = λ w l ws words₀. let (a, us, _) = translate_kept_by w l ws words₀ in (a, us); keeps = λ w l ws words₀. let (a, us, K) = translate_kept_by w l ws words₀ in K }

-- a tape that loads the base negated
abbrev negated : List ℕ
negated = 0x2000 ∷ []

negated_good : (i : ℕ) → i < 1 → Good 1 i (get_or negated i 0)
negated_good zero h =
    record { code = lit≤ tt; entry = lit< tt; double = λ z. refl; first = λ z. (lit≤ tt, lit≤ tt); later = λ n z. n refl }
negated_good (suc i) h = absurd (omega arith)

-- a word without its sign
abbrev unsigned : Step → Step
unsigned double = double
unsigned (load s e) = load plus e
unsigned (add s e) = add plus e
unsigned bad = bad

module _ (c : Translator) where
  negated_accepted : (c.call 2 1 negated (0 ∷ [])).0.refusal ≡ 0
  negated_accepted =
      (translate_exactly 2 1 negated (0 ∷ []) _ _ (c.keeps 2 1 negated (0 ∷ []))).accepts
      ((set_fine two).0, ((set_fine two).1, ((λ h. omega arith), ((λ p b. b.bad (negated_good p b.within)), ((λ h. omega arith), tt)))))

  -- refusing everything
  pub translate_not_refusing : ((w l : ℕ) (ws words₀ : List ℕ) → (c.call w l ws words₀).0.refusal ≢ 0) → ⊥
  translate_not_refusing f = f 2 1 negated (0 ∷ []) negated_accepted

  -- dropping a sign
  pub translate_not_dropping : ((w l : ℕ) (ws words₀ : List ℕ) → (c.call w l ws words₀).0.refusal ≡ 0 → (c.call w l ws words₀).1 ≡ map (λ x. word_of (unsigned (step_of x))) ws ++ drop (length ws) words₀) → ⊥
  unfolding step_of
  translate_not_dropping f =
      let right = (c.keeps 2 1 negated (0 ∷ [])).words_are ∙ kept_written (c.call 2 1 negated (0 ∷ [])).0.refusal _ (0 ∷ []) negated_accepted in
      let same : ◌≡◌ {A = ℕ} 0x1001 0x1000 = ap (λ xs. get_or xs 0 0) (sym right ∙ f 2 1 negated (0 ∷ []) negated_accepted) in
      omega arith

-- an outcome for every input which keeps the run's promise
pub record SecondRunner : Type 0 where
  pub call : (w l : ℕ) (ws : List ℕ) (m g : ℕ) → List ℕ → Running.Ran × List ℕ
  pub keeps : (w l : ℕ) (ws : List ℕ) (m g : ℕ) (multiples₀ : List ℕ) → RunSecond w l ws m g multiples₀ (call w l ws m g multiples₀).0 (call w l ws m g multiples₀).1

-- there is one
pub second_runner : SecondRunner
second_runner =
    record {
      call = λ w l ws m g multiples₀. let (a, ms, _) = run_second_kept_by w l ws m g multiples₀ in (a, ms);
      keeps = λ w l ws m g multiples₀. let (a, ms, K) = run_second_kept_by w l ws m g multiples₀ in K;
    }

-- the translation of that tape, modulo 10 on the base 3
abbrev loading : List ℕ
loading = 0x1001 ∷ []

abbrev pair : List ℕ
pair = 0 ∷ 0 ∷ []

loading_good : (i : ℕ) → i < 1 → SecondGood 2 i (get_or loading i 0)
loading_good zero h =
    record {
      good = record { code = lit≤ tt; entry = lit< tt; double = λ z. absurd (omega arith); first = λ z. (lit≤ tt, lit≤ tt); later = λ n z. n refl };
      no_load_negated = λ z. omega arith;
      no_subtraction = λ z. omega arith;
    }
loading_good (suc i) h = absurd (omega arith)

module _ (c : SecondRunner) where
  abbrev report : Running.Ran
  report = (c.call 2 1 loading 10 3 pair).0

  loading_accepted : report.refusal ≡ 0
  loading_accepted =
      (run_second_exactly 2 1 loading 10 3 pair report _ (c.keeps 2 1 loading 10 3 pair)).accepts
      ((set_fine two).0, ((set_fine two).1, ((λ z. omega arith), ((λ h. omega arith), ((λ h. omega arith), ((λ p b. b.bad (loading_good p b.within)), tt))))))

  -- refusing everything
  pub run_second_not_refusing : ((w l : ℕ) (ws : List ℕ) (m g : ℕ) (multiples₀ : List ℕ) → (c.call w l ws m g multiples₀).0.refusal ≢ 0) → ⊥
  run_second_not_refusing f = f 2 1 loading 10 3 pair loading_accepted

  -- counting the negatives in the cost
  pub run_second_not_negating : ((w l : ℕ) (ws : List ℕ) (m g : ℕ) (multiples₀ : List ℕ) → (c.call w l ws m g multiples₀).0.refusal ≡ 0 → (c.call w l ws m g multiples₀).0.cost.additions ≡ (cost_of (2 * entries l)).additions) → ⊥
  unfolding making_of cost_additions
  run_second_not_negating f =
      let right = (c.keeps 2 1 loading 10 3 pair).cost_additions_are ∙ granted_all report.refusal 0 loading_accepted in
      let wrong : report.cost.additions ≡ 1 = f 2 1 loading 10 3 pair loading_accepted in
      omega arith
