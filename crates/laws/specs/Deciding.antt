-- What a test says of a question. Assumes nothing.
use Rattle.std.specs.Prelude.{◌≡◌, Bool, true, false}

-- r is the answer to the question whether P
pub record Decides (r : Bool) (P : Type 0) : Type 0 where
  pub yes : r ≡ true → P
  pub no : r ≡ false → P → ⊥
