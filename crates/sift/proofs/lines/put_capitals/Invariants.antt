-- With the rest in capitals stored from the index reached on, all is stored.
use Rattle.std.proofs.Common.{◌≡◌, drop}
use Rattle.std.proofs.lemmas.List.Edits.{sets}
use Rattle.meaning.specs.Hexadecimal.{in_capitals}
use Rattle.sift.proofs.lines.put_capitals.Given as goal

abbrev pub invariant-loop-i : goal.invariant-loop-i
invariant-loop-i l = sets l.out l.i (in_capitals (drop l.i l.line)) ≡ sets l.fn.out 0 (in_capitals l.line)
