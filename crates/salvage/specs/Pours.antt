-- What judging the lines of a block of the input leaves. Assumes nothing.
use Rattle.std.specs.Prelude.{◌≡◌, List, ℕ, ◌+◌, ◌-◌, ◌*◌, ◌/◌, ◌^◌, ◌≤◌, length}
use Rattle.cutter.specs.Cuts.{ended, begun, Keeps}
use Rattle.blocks.specs.Blocks.{block}
use Rattle.sift.specs.declared.Sifted.{Sifted}
use Rattle.sift.specs.Sifts.{Ends}
use Rattle.salvage.specs.declared.Salvage.{Salvage}

-- the most blocks that are read: there are no more lines in a block than characters, and each line has a number of 64 bits
abbrev pub turns : ℕ
turns = (2 ^ 64 - 2) / block

-- a text has come after p: of the line that has not ended in it the first characters are kept, however long its lines were, and its number is known
pub record Came (p text line : List ℕ) (kept number₀ number : ℕ) : Type 0 where
  pub keeps : Keeps (begun p text) line kept
  pub number_is : number ≡ length (ended p text) + number₀

-- the whole block has come
abbrev pub Pours : Salvage → List ℕ → Salvage → Type 0
Pours s piece t = (p : List ℕ) → Keeps p s.line s.kept → Came p piece t.line t.kept s.number t.number

-- the last line is judged: a line without a line feed counts if not empty
abbrev pub Judges : Salvage → Salvage → Type 0
Judges s t = (r : Sifted) × Ends s.number s.line s.kept r t.out t.report

-- when n blocks have been read, there were no more lines in them than characters
pub record Ready (n : ℕ) (s : Salvage) : Type 0 where
  pub kept_within : s.kept ≤ length s.line
  pub number_within : s.number ≤ 1 + block * n
