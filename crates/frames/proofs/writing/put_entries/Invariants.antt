-- With the entries that are left stored from the index reached on, all are stored.
use Rattle.std.proofs.Common.{◌≡◌, ◌+◌, ◌*◌, drop}
use Rattle.std.proofs.lemmas.List.Edits.{sets}
use Rattle.meaning.specs.Digits.{weight}
use Rattle.frames.proofs.Entering.{entered}
use Rattle.frames.proofs.writing.put_entries.Given as goal

abbrev pub invariant-loop-i : goal.invariant-loop-i
invariant-loop-i l = record {
  room : l.at + 6 * weight (drop l.i l.digits) ≡ l.from + 6 * weight l.digits;
  stored : sets l.out l.at (entered l.i (drop l.i l.digits)) ≡ sets l.fn.out l.from (entered 0 l.digits);
}
