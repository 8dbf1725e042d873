-- Input in blocks: what is read at once, and what handing it over leaves.
-- Assumes nothing.
use Rattle.std.specs.Prelude.{Result, List, ℕ, Bool, ◌≡◌, ◌<◌, ltb, take, MatchResult, IfOk, IsErr}

-- the most that is read at once
abbrev pub block : ℕ
block = 65536

-- a read gave so many characters: unless a write failed they have been taken, all of them, or where there are none the end has; a read that failed is told, and nothing has
-- been taken
abbrev pub Handed : {S E F : Type 0} → (takes : S → List ℕ → S → Type 0) → (ends : S → S → Type 0) → Result ℕ E → List ℕ → S → Result Bool F → S → Type 0
Handed takes ends got input before result after =
    MatchResult got
    (λ count. IfOk result (λ more. (more ≡ ltb 0 count) × (0 < count → takes before (take count input) after) × (count ≡ 0 → ends before after)))
    (λ _. IsErr result × (after ≡ before))
