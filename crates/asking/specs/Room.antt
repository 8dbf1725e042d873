-- The room that an answer needs. Assumes nothing.
use Rattle.std.specs.Prelude.{ℕ, ◌+◌, ◌≤◌}

-- the longest answer, its line feed counted
abbrev pub most_answer : ℕ
most_answer = 6827

-- an answer ends at r, and there is room for a line feed after it
abbrev pub Answered : ℕ → Type 0
Answered r = r + 1 ≤ most_answer
