-- Entries looked at one by one: what is found of their order, and what they give a place.
-- Assumes nothing.
use Rattle.std.specs.Prelude.{◌≡◌, true, false, List, [], ◌∷◌, ℕ, suc, ◌+◌, ◌*◌, drop, Option, Some, None}
use Rattle.meaning.specs.Hexadecimal.{bytes_of}
use Rattle.meaning.specs.Frames.{Entry, entries_of, rising, entries_in}

-- the place above the last entry, where every place under p is passed
unfoldable pub above : ℕ → List Entry → ℕ
above p [] = p
above p (e ∷ es) = above (suc e.0) es

-- the entries rise below n, and then t is the place above the last
abbrev pub Ordered : List ℕ → ℕ → Option ℕ → Type 0
Ordered line n None = rising 0 n (entries_in (bytes_of line)) ≡ false
Ordered line n (Some t) = (rising 0 n (entries_in (bytes_of line)) ≡ true) × (t ≡ above 0 (entries_in (bytes_of line)))

-- the entries from entry k on, of a line's bytes
abbrev pub from : List ℕ → ℕ → List Entry
from bs k = entries_of (drop (7 + 3 * k) bs)
