-- With the digits that are left stored from the index reached on, all are stored.
use Rattle.std.proofs.Common.{◌≡◌, ◌+◌, ◌*◌, drop}
use Rattle.std.proofs.lemmas.List.Edits.{sets}
use Rattle.meaning.specs.Hexadecimal.{written}
use Rattle.meaning.specs.Frames.{digit_bytes}
use Rattle.frames.proofs.writing.put_digits.Given as goal

abbrev pub invariant-loop-i : goal.invariant-loop-i
invariant-loop-i l = sets l.out (l.at + 2 * l.i) (written (digit_bytes (drop l.i l.digits))) ≡ sets l.fn.out l.at (written (digit_bytes l.digits))
