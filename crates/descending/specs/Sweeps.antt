-- Windows written from the top place down, with m places left and then m': what stands in the buffer, and what it comes to. Assumes nothing.
use Rattle.std.specs.Prelude.{◌≡◌, ◌≢◌, List, ℕ, ◌+◌, ◌<◌, ◌≤◌, ℤ, pos, length, replicate}
use Rattle.meaning.specs.Scalars.{bit, below}
use Rattle.meaning.specs.Windows.{leading, second}
use Rattle.meaning.specs.Wmof.{wmof}
use Rattle.meaning.specs.Closest.{larger, smaller}
use Rattle.forms.specs.Closest.{closest_of}
use Rattle.forms.proofs.Loops.{from}
use Rattle.places.specs.Openings.{Clear}
use Rattle.descending.specs.declared.Turn.{Turn}
use Rattle.descending.specs.declared.Turn.TheVariants.{Never, AtOne, AtZero}

-- no window that opens from place `floor` up, with m places left, turns: it opens w places above place t and leads with b
abbrev pub Untied : (b w N t floor m : ℕ) → Type 0
Untied b w N t floor m = (i : ℕ) → floor ≤ i → i < m → i ≡ w + t → bit N i ≢ below N i → bit N i ≢ b

-- the windows that open from place `floor` up are written: where none of them turns, the buffer comes to the same string
pub record Swept (w N floor m : ℕ) (ds : List ℤ) (m' : ℕ) (ds' : List ℤ) : Type 0 where
  pub same_length : length ds' ≡ length ds
  pub fewer : m' ≤ m
  pub clear : Clear m' ds'
  pub comes : (b t : ℕ) → Untied b w N t floor m → from b w N t m ds ≡ from b w N t m' ds'

-- window s opens and leads with b
abbrev pub Turns : (w s b : ℕ) → Type 0
Turns w s b = (leading w s ≢ second w s) × (leading w s ≡ b)

-- the leading bit at which a tie turns. No window leads with 2, so none turns there
abbrev pub bit_of : Turn → ℕ
bit_of Never = 2
bit_of AtOne = 1
bit_of AtZero = 0

-- the descent halts at place r: over the window that turns, w places above place t, or at place 0 where none turns
pub record Halts (b w N t r : ℕ) : Type 0 where
  pub none : r ≡ 0 → (m : ℕ) → Untied b w N t 0 m
  pub some : r ≢ 0 → (r ≡ t + w + 1) × (bit N (t + w) ≢ below N (t + w)) × (bit N (t + w) ≡ b)

-- so far: `left` places are left, and what the buffer of n + 1 zeros came to it still comes to. A window that turns and that is not passed lies right under place `floor`
pub record Descent (b w N t n floor left : ℕ) (ds : List ℤ) : Type 0 where
  pub same_length : length ds ≡ n + 1
  pub within : (floor ≤ left) × (left ≤ n + 1)
  pub clear : Clear left ds
  pub comes : from b w N t (n + 1) (replicate (n + 1) (pos 0)) ≡ from b w N t left ds
  pub none : floor ≡ 0 → Untied b w N t 0 left
  pub some : floor ≢ 0 → (floor ≡ t + w + 1) × (bit N (t + w) ≢ below N (t + w)) × (bit N (t + w) ≡ b)

-- it has come to that window: the window opens, and the places from it down are left
pub record Tied (w N t : ℕ) (ds : List ℤ) : Type 0 where
  pub opens : bit N (t + w) ≢ below N (t + w)
  pub within : t + w + 1 ≤ length ds
  pub clear : Clear (t + w + 1) ds

-- the window is taken one lower: where it turns, this is the string that the buffer came to
pub record Yielded (w N t : ℕ) (ds ds' : List ℤ) : Type 0 where
  pub comes : (b : ℕ) → bit N (t + w) ≡ b → from b w N t (t + w + 1) ds ≡ ds'

-- the string by the leading bit at which a tie turns
abbrev pub Turned : Turn → (w N n : ℕ) → List ℤ → Type 0
Turned Never w N n ds = ds ≡ wmof w N n
Turned AtOne w N n ds = ds ≡ closest_of larger w N n
Turned AtZero w N n ds = ds ≡ closest_of smaller w N n
