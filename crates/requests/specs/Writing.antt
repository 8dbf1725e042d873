-- A line written to the front of lent memory.
-- Assumes nothing.
use Rattle.std.specs.Prelude.{◌≡◌, List, ◌++◌, ℕ, length, drop}

-- r is the line's length; the line stands at the front of out, and what stood past it stands
pub record Wrote (line out₀ : List ℕ) (r : ℕ) (out : List ℕ) : Type 0 where
  pub count_is : r ≡ length line
  pub out_is : out ≡ line ++ drop r out₀
