-- The fields stand one behind the other, and the entries behind them. Assumes nothing.
use Rattle.std.proofs.Common.{length}
use Rattle.meaning.specs.Frames.{entries_from, entry_bytes}
use Rattle.frames.proofs.Filling.{sparse_fields}
use Rattle.frames.proofs.writing.fill_sparse.Goals as goal

pub returns : goal.returns
returns c =
    let a = c.args in
    let ds = a.digits.now in
    rw (← c.requires.weight_value.0, ← c.requires.weight_value.1)
    (sparse_fields a.out.now a.weight a.top (length ds) (entry_bytes (entries_from 0 ds)) c.put.ensures c.put_number.ensures c.put_number-2.ensures c.put_number-3.ensures c.put_entries.ensures)
