-- Bytes and their characters, each had back from the other: what is written for bytes is read to them, and pairs in capitals are what is written for their bytes. A line in capitals is
-- read as the line is.
-- Assumes nothing.
use mathlib.Core.Path.{◌≡◌, refl, sym, ap, ◌∙◌}
use mathlib.Core.Logic.{◌≢◌}
use mathlib.Core.Bool.{Bool, true, false, ◌&&◌, ◌||◌}
use mathlib.Core.List.{List, [], ◌∷◌}
use Prim.Native.Nat.{ℕ, suc, ◌+◌, ◌*◌, ◌-◌, ◌/◌, ◌%◌, ◌<◌, ◌≤◌}
use native.Mathlib.Omega.{arith}
use native.Mathlib.Decide.{dec_le, dec_lt}
use lib.Dec.{ltb, eqb}
use lib.ListN.{length}
use borrow.Author.Tests.{le-leb, lt-leb, lt-ltb, le-ltb, eq-eqb, ltb-true, eqb-true}
use Rattle.laws.proofs.Choices.{true_false}
use Rattle.meaning.specs.Hexadecimal.{between, nibble, all_hex, in_pairs, bytes_of, capital, written, raised, in_capitals, has_small}
use Rattle.hexadecimal.proofs.Characters.{outside, decimal, upper, lower, other}
use Rattle.hexadecimal.proofs.Writing.{written_length}

-- ---- one character
-- where it stands among the ranges of hexadecimal characters
data Stands (c : ℕ) : Type 0 where
  is_decimal : 48 ≤ c → c ≤ 57 → Stands c
  is_upper : 65 ≤ c → c ≤ 70 → Stands c
  is_lower : 97 ≤ c → c ≤ 102 → Stands c
  is_other : nibble c ≡ 16 → Stands c

stands : (c : ℕ) → Stands c
stands c = go (dec_lt c 48) (dec_le c 57) (dec_lt c 65) (dec_le c 70) (dec_lt c 97) (dec_le c 102)
  where
    none : ((48 ≤ c) → (c ≤ 57) → ⊥) → ((65 ≤ c) → (c ≤ 70) → ⊥) → ((97 ≤ c) → (c ≤ 102) → ⊥) → Stands c
    none d u l = is_other (other c d u l)

    go : Dec (c < 48) → Dec (c ≤ 57) → Dec (c < 65) → Dec (c ≤ 70) → Dec (c < 97) → Dec (c ≤ 102) → Stands c
    go (yes a) _ _ _ _ _ = none (λ x y. omega arith) (λ x y. omega arith) (λ x y. omega arith)
    go (no a) (yes b) _ _ _ _ = is_decimal (omega arith) b
    go (no a) (no b) (yes d) _ _ _ = none (λ x y. omega arith) (λ x y. omega arith) (λ x y. omega arith)
    go (no a) (no b) (no d) (yes e) _ _ = is_upper (omega arith) e
    go (no a) (no b) (no d) (no e) (yes f) _ = none (λ x y. omega arith) (λ x y. omega arith) (λ x y. omega arith)
    go (no a) (no b) (no d) (no e) (no f) (yes g) = is_lower (omega arith) g
    go (no a) (no b) (no d) (no e) (no f) (no g) = none (λ x y. omega arith) (λ x y. omega arith) (λ x y. omega arith)

module _ (c : ℕ) where
  raised_same : c < 97 → raised c ≡ c
  unfolding raised
  raised_same h = rw (lt-leb 97 c h)

  raised_lower : 97 ≤ c → c ≤ 102 → raised c ≡ c - 32
  unfolding raised
  raised_lower l h = rw (le-leb 97 c l, le-leb c 102 h)

module _ (x : ℕ) where
  capital_low : x < 10 → capital x ≡ 48 + x
  capital_low h = rw (lt-ltb x 10 h)

  capital_high : 10 ≤ x → capital x ≡ 55 + x
  capital_high h = rw (le-ltb x 10 h)

  -- the character of a number below 16 stands for it
  nibble_capital : x < 16 → nibble (capital x) ≡ x
  nibble_capital h = go (dec_lt x 10)
    where
      go : Dec (x < 10) → nibble (capital x) ≡ x
      go (yes l) = ap nibble (capital_low l) ∙ decimal (48 + x) (omega arith) (omega arith) ∙ omega arith
      go (no l) = ap nibble (capital_high (omega arith)) ∙ upper (55 + x) (omega arith) (omega arith) ∙ omega arith

-- a hexadecimal character in capitals is that of what it stands for
capital_nibble : (c : ℕ) → nibble c < 16 → capital (nibble c) ≡ raised c
capital_nibble c h = go (stands c)
  where
    go : Stands c → capital (nibble c) ≡ raised c
    go (is_decimal l u) = let e = decimal c l u in capital_low (nibble c) (omega arith) ∙ omega (arith, raised_same c (omega arith))
    go (is_upper l u) = let e = upper c l u in capital_high (nibble c) (omega arith) ∙ omega (arith, raised_same c (omega arith))
    go (is_lower l u) = let e = lower c l u in capital_high (nibble c) (omega arith) ∙ omega (arith, raised_lower c l u)
    go (is_other e) = absurd (omega arith)

-- ---- what is written for bytes
-- every byte is below 256
abbrev pub all_bytes : List ℕ → Type 0
all_bytes [] = Unit {0}
all_bytes (b ∷ bs) = (b < 256) × all_bytes bs

-- is read to them
pub bytes_written : (bs : List ℕ) → all_bytes bs → bytes_of (written bs) ≡ bs
unfolding written bytes_of
bytes_written [] t = refl
bytes_written (b ∷ bs) (h, t) =
    let e : 16 * nibble (capital (b / 16)) + nibble (capital (b % 16)) ≡ b = omega (arith, nibble_capital (b / 16) (omega arith), nibble_capital (b % 16) (omega arith)) in
    rw (e, bytes_written bs t)

hex_written : (bs : List ℕ) → all_bytes bs → all_hex (written bs) ≡ true
unfolding written all_hex
hex_written [] t = refl
hex_written (b ∷ bs) (h, t) =
    let high : nibble (capital (b / 16)) < 16 = omega (arith, nibble_capital (b / 16) (omega arith)) in
    let low : nibble (capital (b % 16)) < 16 = omega (arith, nibble_capital (b % 16) (omega arith)) in
    rw (lt-ltb _ 16 high, lt-ltb _ 16 low, hex_written bs t)

-- and is pairs
pub pairs_written : (bs : List ℕ) → all_bytes bs → in_pairs (written bs) ≡ true
unfolding in_pairs
pairs_written bs t = rw (hex_written bs t, eq-eqb (length (written bs) % 2) 0 (omega (arith, written_length bs)))

-- ---- pairs
pub both_true : (p q : Bool) → p && q ≡ true → (p ≡ true) × (q ≡ true)
both_true true q e = (refl, e)
both_true false q e = absurd (true_false (sym e))

pub first_hex : (c : ℕ) (cs : List ℕ) → all_hex (c ∷ cs) ≡ true → (nibble c < 16) × (all_hex cs ≡ true)
unfolding all_hex
first_hex c cs t = let b = both_true (ltb (nibble c) 16) (all_hex cs) t in (ltb-true (nibble c) 16 b.0, b.1)

-- are bytes
hex_bytes : (line : List ℕ) → all_hex line ≡ true → all_bytes (bytes_of line)
unfolding bytes_of
hex_bytes [] t = tt
hex_bytes (a ∷ []) t = tt
hex_bytes (a ∷ b ∷ cs) t =
    let f = first_hex a (b ∷ cs) t in
    let g = first_hex b cs f.1 in
    (omega arith, hex_bytes cs g.1)

-- and are, in capitals, what is written for their bytes
written_bytes : (line : List ℕ) → all_hex line ≡ true → length line % 2 ≡ 0 → written (bytes_of line) ≡ in_capitals line
unfolding bytes_of written in_capitals
written_bytes [] t e = refl
written_bytes (a ∷ []) t e = absurd (omega arith)
written_bytes (a ∷ b ∷ cs) t e =
    let f = first_hex a (b ∷ cs) t in
    let g = first_hex b cs f.1 in
    let high : (16 * nibble a + nibble b) / 16 ≡ nibble a = omega arith in
    let low : (16 * nibble a + nibble b) % 16 ≡ nibble b = omega arith in
    rw (high, low, capital_nibble a f.0, capital_nibble b g.0, written_bytes cs g.1 (omega arith))

module _ (line : List ℕ) (pairs : in_pairs line ≡ true) where
  pub pairs_hex : all_hex line ≡ true
  unfolding in_pairs
  pairs_hex = (both_true (all_hex line) (eqb (length line % 2) 0) pairs).0

  pub pairs_bytes : all_bytes (bytes_of line)
  pairs_bytes = hex_bytes line pairs_hex

  pub pairs_capitals : written (bytes_of line) ≡ in_capitals line
  unfolding in_pairs
  pairs_capitals = written_bytes line pairs_hex (eqb-true _ 0 (both_true (all_hex line) (eqb (length line % 2) 0) pairs).1)

-- ---- a line in capitals
-- a small letter, or any other character
small? : (c : ℕ) → Dec ((97 ≤ c) × (c ≤ 102))
small? c = go (dec_le 97 c) (dec_le c 102)
  where
    go : Dec (97 ≤ c) → Dec (c ≤ 102) → Dec ((97 ≤ c) × (c ≤ 102))
    go (yes l) (yes h) = yes (l, h)
    go (yes l) (no h) = no (λ b. h b.1)
    go (no l) h = no (λ b. l b.0)

module _ (c : ℕ) where
  raised_other : between 97 102 c ≡ false → raised c ≡ c
  unfolding raised
  raised_other e = rw e

  -- stands for the same in capitals
  nibble_raised : nibble (raised c) ≡ nibble c
  nibble_raised = go (small? c)
    where
      go : Dec ((97 ≤ c) × (c ≤ 102)) → nibble (raised c) ≡ nibble c
      go (yes (l, h)) = ap nibble (raised_lower c l h) ∙ upper (c - 32) (omega arith) (omega arith) ∙ omega (arith, lower c l h)
      go (no n) = ap nibble (raised_other (outside 97 102 c (λ l h. n (l, h))))

  -- and is no small letter then
  raised_large : between 97 102 (raised c) ≡ false
  raised_large = go (small? c)
    where
      go : Dec ((97 ≤ c) × (c ≤ 102)) → between 97 102 (raised c) ≡ false
      go (yes (l, h)) = rw (raised_lower c l h) (outside 97 102 (c - 32) (λ a b. omega arith))
      go (no n) = let e = outside 97 102 c (λ l h. n (l, h)) in rw (raised_other e) e

pub capitals_length : (line : List ℕ) → length (in_capitals line) ≡ length line
unfolding in_capitals
capitals_length [] = refl
capitals_length (c ∷ cs) = ap suc (capitals_length cs)

-- it is read alike
pub capitals_hex : (line : List ℕ) → all_hex (in_capitals line) ≡ all_hex line
unfolding in_capitals all_hex
capitals_hex [] = refl
capitals_hex (c ∷ cs) = rw (nibble_raised c, capitals_hex cs)

pub capitals_bytes : (line : List ℕ) → bytes_of (in_capitals line) ≡ bytes_of line
unfolding in_capitals bytes_of
capitals_bytes [] = refl
capitals_bytes (a ∷ []) = refl
capitals_bytes (a ∷ b ∷ cs) = rw (nibble_raised a, nibble_raised b, capitals_bytes cs)

-- it has no small letter
pub capitals_large : (line : List ℕ) → has_small (in_capitals line) ≡ false
unfolding in_capitals has_small
capitals_large [] = refl
capitals_large (c ∷ cs) = rw (raised_large c, capitals_large cs)

-- and a line without one is in capitals
pub large_capitals : (line : List ℕ) → has_small line ≡ false → in_capitals line ≡ line
unfolding in_capitals has_small
large_capitals [] e = refl
large_capitals (c ∷ cs) e = go (between 97 102 c) refl e (large_capitals cs)
  where
    go : (b : Bool) → between 97 102 c ≡ b → b || has_small cs ≡ false → (has_small cs ≡ false → in_capitals cs ≡ cs) → raised c ∷ in_capitals cs ≡ c ∷ cs
    go true q e f = absurd (true_false e)
    go false q e f = rw (raised_other c q, f e)

-- so exactly a line with one is changed
pub small_capitals : (line : List ℕ) → has_small line ≡ true → in_capitals line ≢ line
small_capitals line e f = true_false (sym e ∙ ap has_small (sym f) ∙ capitals_large line)
