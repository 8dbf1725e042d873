-- The digit is what the raised number leaves over, less half of the span.
use Rattle.std.proofs.Common.{◌≡◌, ◌-◌, ◌*◌, ◌%◌, ◌^◌, arith}
use lib.Pow.{pow_pos}
use Rattle.meaning.specs.Digits.{largest}
use Rattle.laws.proofs.Powers.{pow_pred}
use Rattle.laws.proofs.Shifts.{one_shifted}
use Rattle.width.proofs.Widths.{whole_pair}
use Rattle.wnaf.proofs.Taking.{takes_whole}
use Rattle.wnaf.proofs.take_whole.Goals as goal

pub returns : goal.returns
returns c =
    let a = c.args in
    let w = a.w.bits in
    let h = c.requires in
    let is : largest w ≡ a.half - 1 = omega (arith, pow_pred w (omega arith)) in
    let pair = rw is at (whole_pair {w = w} a.w.wide) in
    takes_whole w _ a.y pair.between h.1 a.half (1 * 2 ^ w % 2 ^ 64) (omega (arith, pow_pred w (omega arith), pow_pos (w - 1))) h.0 (one_shifted w 64 (omega arith)) c.left.ensures
