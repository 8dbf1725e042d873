-- What answering the lines of a block of the input leaves. Assumes nothing.
use Rattle.std.specs.Prelude.{List, ℕ, ◌-◌, ◌^◌, ◌≤◌, length}
use Rattle.meaning.specs.Requests.{Answer}
use Rattle.frames.specs.Told.{version_of}
use Rattle.cutter.specs.Cuts.{begun, Keeps}
use Rattle.stream.specs.Streams.{Ends}
use Rattle.pipe.specs.declared.Pipe.{Pipe}

-- the most blocks that are read: so many as no run reaches
abbrev pub turns : ℕ
turns = 2 ^ 64 - 1

-- the whole block has come: of the line that has not ended in it the first characters are kept, however long the lines in it were
abbrev pub Pours : Pipe → List ℕ → Pipe → Type 0
Pours s piece t = (p : List ℕ) → Keeps p s.line s.kept → Keeps (begun p piece) t.line t.kept

-- the last line is answered: a line without a line feed counts if not empty
abbrev pub Answers : Pipe → Pipe → Type 0
Answers s t = (n : ℕ) × Ends (Answer (version_of s.version)) s.line s.kept n t.out

-- however many blocks have been read
abbrev pub Ready : ℕ → Pipe → Type 0
Ready n s = s.kept ≤ length s.line
