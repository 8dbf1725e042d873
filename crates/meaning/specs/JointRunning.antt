-- The joint run of a tape over residues modulo m: its words stand for g, h, g + h and g - h, and it reaches the residue of A g + B h, where A and B are the two values
-- that the words leave. Assumes nothing.
use Rattle.std.specs.Prelude.{◌≡◌, List, [], ◌∷◌, ℕ, zero, suc, ◌+◌, ◌-◌, ◌%◌, ◌<◌, ℤ, pos, neg_ℤ, ◌+ℤ◌, ◌*ℤ◌, length}
use Rattle.meaning.specs.Digits.{listed}
use Rattle.meaning.specs.Refusals.{Rule, plain, lowest}
use Rattle.meaning.specs.Words.{most_words}
use Rattle.meaning.specs.Walks.{Carrier, Table, by_sign, walk}
use Rattle.meaning.specs.Multiples.{Cost}
use Rattle.meaning.specs.Running.{BadWord, Ran, times, RunBy}

-- ---- a tape's two values: how often g is taken, and h
pub record Pair : Type 0 where
  pub first : ℤ
  pub second : ℤ

abbrev pub pairs : Carrier Pair
pairs =
    record {
      none = record { first = pos 0; second = pos 0 };
      dbl = λ p. record { first = pos 2 *ℤ p.first; second = pos 2 *ℤ p.second };
      add = λ p q. record { first = p.first +ℤ q.first; second = p.second +ℤ q.second };
    }

-- the entries 0 to 3: g, h, g + h, g - h
abbrev pub joint_count : ℕ
joint_count = 4

unfoldable pub pair_at : ℕ → Pair
pair_at zero = record { first = pos 1; second = pos 0 }
pair_at (suc zero) = record { first = pos 0; second = pos 1 }
pair_at (suc (suc zero)) = record { first = pos 1; second = pos 1 }
pair_at (suc (suc (suc e))) = record { first = pos 1; second = neg_ℤ (pos 1) }

abbrev pub columns : Table Pair
columns = by_sign pair_at (λ e. record { first = neg_ℤ (pair_at e).first; second = neg_ℤ (pair_at e).second })

-- with no words both are 0
abbrev pub pair_value : List ℕ → Pair
pair_value ws = walk pairs columns ws

-- A g + B h
abbrev pub jointly : (g h : ℤ) → Pair → ℤ
jointly g h p = p.first *ℤ g +ℤ p.second *ℤ h

-- ---- the entries as residues modulo m, and what they cost: the sum and the difference are an addition each
unfoldable pub joint_entry : (m g h : ℕ) → ℕ → ℕ
joint_entry m g h zero = g % m
joint_entry m g h (suc zero) = h % m
joint_entry m g h (suc (suc zero)) = (g + h) % m
joint_entry m g h (suc (suc (suc e))) = (g + (m - h % m)) % m

unfoldable pub joint_entries_of : (m g h : ℕ) → List ℕ
joint_entries_of m g h = listed (joint_entry m g h) 0 joint_count

abbrev pub joint_cost : Cost
joint_cost = record { doublings = 0; additions = 2 }

-- ---- the call
-- 12: modulus 0; 13: tape over 1,057 words; 14: buffer under four entries; 15: a bad word; place is the first such
abbrev pub run_joint_rules : (ws : List ℕ) (m room : ℕ) → List Rule
run_joint_rules ws m room =
    plain 12 (m ≡ 0)
    ∷ plain 13 (most_words < length ws)
    ∷ plain 14 (room < joint_count)
    ∷ lowest 15 (BadWord joint_count ws)
    ∷ []

-- what it answers is what a run answers; and the buffer of entries afterwards
abbrev pub RunJoint : (ws : List ℕ) (m g h : ℕ) (entries₀ : List ℕ) (a : Ran) (entries : List ℕ) → Type 0
RunJoint ws m g h entries₀ a entries =
    RunBy (run_joint_rules ws m (length entries₀)) joint_count ws m (times (pair_value ws).first g ∷ times (pair_value ws).second h ∷ []) joint_cost (joint_entries_of m g h) entries₀ a entries
