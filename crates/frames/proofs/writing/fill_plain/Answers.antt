-- The fields stand one behind the other, and the digits behind them. Assumes nothing.
use Rattle.meaning.specs.Frames.{digit_bytes}
use Rattle.frames.proofs.Filling.{plain_fields}
use Rattle.frames.proofs.writing.fill_plain.Goals as goal

pub returns : goal.returns
returns c =
    let a = c.args in
    rw (← c.requires.weight_value.0, ← c.requires.weight_value.1)
    (plain_fields a.out.now a.weight a.top (digit_bytes a.digits.now) c.put.ensures c.put_number.ensures c.put_number-2.ensures c.put_digits.ensures)
