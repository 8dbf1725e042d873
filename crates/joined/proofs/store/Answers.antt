-- The four entries, as the code finds them.
use Rattle.std.proofs.Common.{◌++◌, drop, ap, ◌∙◌}
use Rattle.joined.proofs.Entries.{four_are}
use Rattle.joined.proofs.store.Goals as goal

pub returns : goal.returns
returns c = ap (λ xs. xs ++ drop 4 c.args.entries.now) (c.copy_from_slice.ensures.after ∙ four_are c.args.modulus c.args.first c.args.second c.plus.ensures c.plus-2.ensures)
