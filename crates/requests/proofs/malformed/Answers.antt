-- Each way out is a law of frames.
use Rattle.std.proofs.Common.{arith, sym, subst, T}
use Rattle.hexadecimal.proofs.Characters.{hex_at}
use Rattle.requests.proofs.Requests.{short, long, odd, strange, stated}
use Rattle.requests.proofs.malformed.Goals.{then-line-via-then-line, then-line-via-else-line+then-line-gt-MOST_CHARACTERS, then-line-via-else-line+else-line-gt-MOST_CHARACTERS+then-line-eq1}
use Rattle.requests.proofs.malformed.Goals as goal

pub returns-then-line : goal.returns-then-line
returns-then-line c =
    let line = c.args.line.now in
    elim c.then-line.branch [
      | then-line-via-then-line w ↦ sym (short line w.if-line.true)
      | then-line-via-else-line+then-line-gt-MOST_CHARACTERS w ↦ sym (long line w.if-line-gt-MOST_CHARACTERS.true)
      | then-line-via-else-line+else-line-gt-MOST_CHARACTERS+then-line-eq1 w ↦ sym (odd line w.if-line-eq1.true)
    ]

pub returns-then-not-all_hex : goal.returns-then-not-all_hex
returns-then-not-all_hex c = sym (strange c.args.line.now (sym c.if-not-all_hex.ensures))

pub byte-stated-requires : goal.byte-stated-requires
byte-stated-requires c =
    let line = c.args.line.now in
    let all = subst T c.if-not-all_hex.ensures tt in
    (hex_at line all 4 (omega arith), hex_at line all 5 (omega arith))

pub returns : goal.returns
returns c =
    let line = c.args.line.now in
    rw (c.from.ensures, c.byte-stated.ensures) (sym (stated line c.if-line.false c.if-line-gt-MOST_CHARACTERS.false c.if-line-eq1.false (sym c.if-not-all_hex.ensures)))
