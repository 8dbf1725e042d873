use Rattle.std.proofs.Common.{◌≡◌, ◌+◌, ◌*◌, ◌≤◌, T, length}
use Rattle.std.proofs.lemmas.List.Edits.{sets}
use Rattle.meaning.specs.Hexadecimal.{all_hex, bytes_of}
use Rattle.hexadecimal.proofs.read.Given as goal

-- with the bytes of the pairs that are left stored from the index reached on, all are stored
abbrev pub invariant-loop-k : goal.invariant-loop-k
invariant-loop-k l = record {
  pairs : l.k-iterator.iter.size ≡ 2;
  hex : T (all_hex l.k-iterator.iter.rest.now);
  room : length l.k-iterator.iter.rest.now + 2 * l.k-iterator.count ≤ 2 * length l.bytes;
  stored : sets l.bytes l.k-iterator.count (bytes_of l.k-iterator.iter.rest.now) ≡ sets l.initial.bytes 0 (bytes_of l.line);
}
