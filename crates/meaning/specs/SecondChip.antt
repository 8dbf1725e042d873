-- The chip without subtraction: it loads, adds and doubles alone, and has each entry's negative as an entry too. A tape translated to its words, and the run of its words over
-- residues modulo m. Assumes nothing.
use Rattle.std.specs.Prelude.{◌≡◌, ◌≢◌, cond, List, [], ◌∷◌, ◌++◌, map, ℕ, ◌+◌, ◌*◌, ◌-◌, ◌%◌, ◌<◌, ltb, ℤ, pos, neg_ℤ, length, get_or, drop}
use Rattle.meaning.specs.Digits.{entries, listed}
use Rattle.meaning.specs.Refusals.{Rule, plain, lowest, First, granted, kept, set_rules}
use Rattle.meaning.specs.Words.{most_words, code_of, plus, minus, Step, double, load, add, bad, step_of, word_of}
use Rattle.meaning.specs.Walks.{Table, by_sign, walk, wholes, multiple, Good}
use Rattle.meaning.specs.Multiples.{cost_of}
use Rattle.meaning.specs.Running.{BadWord, Ran, times, RunBy}

-- ---- its entries, of which there are twice `count`: e is 2 e + 1, and from `count` on comes the negative of entry e - count
abbrev pub second_entry : (count e : ℕ) → ℤ
second_entry count e = cond (ltb e count) (pos (multiple e)) (neg_ℤ (pos (multiple (e - count))))

abbrev pub second_odds : (count : ℕ) → Table ℤ
second_odds count = by_sign (second_entry count) (λ e. neg_ℤ (second_entry count e))

-- the whole number that its words leave
abbrev pub second_value : (count : ℕ) → List ℕ → ℤ
second_value count ws = walk wholes (second_odds count) ws

-- ---- the translation: an entry that is negated is the entry `count` further on
abbrev pub turned : (count : ℕ) → Step → Step
turned count double = double
turned count (load plus e) = load plus e
turned count (load minus e) = load plus (e + count)
turned count (add plus e) = add plus e
turned count (add minus e) = add plus (e + count)
turned count bad = bad

abbrev pub translated : (count x : ℕ) → ℕ
translated count x = word_of (turned count (step_of x))

abbrev pub translation : (count : ℕ) → List ℕ → List ℕ
translation count ws = map (translated count) ws

-- after those of the set 13: tape over 1,057 words; 15: a word that the run calls bad; then 11: word buffer too short
abbrev pub translate_rules : (w l : ℕ) (ws : List ℕ) (room : ℕ) → List Rule
translate_rules w l ws room = set_rules w l ++ (plain 13 (most_words < length ws) ∷ lowest 15 (BadWord (entries l) ws) ∷ plain 11 (room < length ws) ∷ [])

-- what the call answers
pub record Translated : Type 0 where
  pub refusal : ℕ
  pub place : ℕ
  pub words : ℕ

-- and the buffer afterwards: as many words as the source has, and none beyond them is written
pub record Translate (w l : ℕ) (ws words₀ : List ℕ) (a : Translated) (words : List ℕ) : Type 0 where
  pub first : First (translate_rules w l ws (length words₀)) a.refusal a.place
  pub count_is : a.words ≡ granted a.refusal (length ws)
  pub words_are : words ≡ kept a.refusal (translation (entries l) ws ++ drop (length ws) words₀) words₀

-- ---- the run
-- the word x at index i is good on this chip with `count` entries: its code is 0, 1 or 3, and all else is as in a tape
pub record SecondGood (count i x : ℕ) : Type 0 where
  pub good : Good count i x
  pub no_load_negated : code_of x ≢ 2
  pub no_subtraction : code_of x ≢ 4

-- the word at index p is bad
pub record SecondBad (count : ℕ) (ws : List ℕ) (p : ℕ) : Type 0 where
  pub within : p < length ws
  pub bad : SecondGood count p (get_or ws p 0) → ⊥

-- after those of the set 12: modulus 0; 13: tape over 1,057 words; 14: multiples buffer under twice the entries; 15: a bad word; place is the first such
abbrev pub second_rules : (w l : ℕ) (ws : List ℕ) (m room : ℕ) → List Rule
second_rules w l ws m room =
    set_rules w l ++ (plain 12 (m ≡ 0) ∷ plain 13 (most_words < length ws) ∷ plain 14 (room < 2 * entries l) ∷ lowest 15 (SecondBad (2 * entries l) ws) ∷ [])

-- the multiples (2 e + 1) · g mod m, and after them what each lacks of m
abbrev pub second_multiple : (count m g e : ℕ) → ℕ
second_multiple count m g e = cond (ltb e count) (multiple e * g % m) ((m - multiple (e - count) * g % m) % m)

unfoldable pub second_multiples_of : (count m g : ℕ) → List ℕ
second_multiples_of count m g = listed (second_multiple count m g) 0 (2 * count)

-- it reports what a run does; to negate costs nothing
abbrev pub RunSecond : (w l : ℕ) (ws : List ℕ) (m g : ℕ) (multiples₀ : List ℕ) (a : Ran) (multiples : List ℕ) → Type 0
RunSecond w l ws m g multiples₀ a multiples =
    RunBy (second_rules w l ws m (length multiples₀)) (2 * entries l) ws m (times (second_value (entries l) ws) g ∷ []) (cost_of (entries l)) (second_multiples_of (entries l) m g) multiples₀ a multiples
