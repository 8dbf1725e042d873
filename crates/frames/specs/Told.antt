-- The versions and the answers, as the meaning has them.
-- Assumes nothing.
use Rattle.std.specs.Prelude.{◌≢◌, ℕ, ⊤, Result, Ok, Err}
use Rattle.meaning.specs.Frames as Frames
use Rattle.meaning.specs.Frames.{version1, version2}
use Rattle.refusals.specs.declared.Reason.{Reason}
use Rattle.refusals.specs.Coded.{coded}
use Rattle.frames.specs.declared.Version.{Version}
use Rattle.frames.specs.declared.Version.TheVariants.{Plain, Sparse}
use Rattle.frames.specs.declared.Framed.{Framed}
use Rattle.frames.specs.declared.Parsed.{Parsed}
use Rattle.frames.specs.declared.reading.Reading.{Reading}
use Rattle.frames.specs.declared.reading.Reading.TheVariants.{Stated, String}

abbrev pub version_of : Version → Frames.Version
version_of Plain = version1
version_of Sparse = version2

-- ---- what C is answered
abbrev pub framed : Framed → Frames.Framed
framed a = record { refusal = a.refusal; length = a.length }

abbrev pub parsed : Parsed → Frames.Parsed
parsed a = record { refusal = a.refusal; stated = a.stated; weight = a.weight; top = a.top; places = a.places }

-- ---- what the calls answer: a refusal has 0 in the other fields
abbrev pub wrote : Result ℕ Reason → Frames.Framed
wrote (Ok n) = record { refusal = 0; length = n }
wrote (Err r) = record { refusal = coded r; length = 0 }

abbrev pub refused_by : ℕ → Frames.Parsed
refused_by r = record { refusal = r; stated = 0; weight = 0; top = 0; places = 0 }

abbrev pub said : Result Reading Reason → Frames.Parsed
said (Ok (Stated b)) = record { refusal = 0; stated = b; weight = 0; top = 0; places = 0 }
said (Ok (String k t n)) = record { refusal = 0; stated = 0; weight = k; top = t; places = n }
said (Err r) = refused_by (coded r)

-- the number that a line states is not 0, so it is told from a string of no places
abbrev pub Stating : Result Reading Reason → Type 0
Stating (Ok (Stated b)) = b ≢ 0
Stating (Ok (String k t n)) = ⊤
Stating (Err r) = ⊤
