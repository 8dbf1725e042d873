-- The kinds of a line.
-- Assumes nothing.
use Rattle.std.specs.Prelude.{◌≡◌, ◌≢◌, true, List, ℕ, Option, Some, None}
use Rattle.meaning.specs.Frames.{stated, unreadable}
use Rattle.layout.specs.Wholes.{PlainFrame, SparseFrame}
use Rattle.frames.specs.declared.kinds.Kind.{Kind}
use Rattle.frames.specs.declared.kinds.Kind.TheVariants.{Stated, Plain, Sparse}

-- what is known of a line by its kind
abbrev pub Kinded : List ℕ → Option Kind → Type 0
Kinded line None = unreadable line ≡ true
Kinded line (Some (Stated b)) = (stated line ≡ b) × (b ≢ 0)
Kinded line (Some Plain) = PlainFrame line
Kinded line (Some Sparse) = SparseFrame line
