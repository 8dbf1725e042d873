-- The version that C asks for by a byte.
-- Assumes nothing.
use Rattle.std.specs.Prelude.{cond, ℕ, eqb}
use Rattle.meaning.specs.Frames.{Version, version1, version2}

-- 1 is version 1, and anything else version 2
unfoldable pub numbered : ℕ → Version
numbered n = cond (eqb n 1) version1 version2
