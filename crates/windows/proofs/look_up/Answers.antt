-- The entry of a window gives its u and k.
use Rattle.std.proofs.Common.{◌≡◌, ◌+◌, ap, ◌∙◌, arith, nat_abs}
use Rattle.meaning.specs.Windows.{table_start}
use Rattle.table.specs.Tables.{unit_of, twos_of}
use Rattle.width.proofs.Widths.{pair_wide}
use Rattle.table.proofs.Entries.{within, unit_of_is, twos_of_is}
use Rattle.windows.proofs.Digits.{entry_small, entry_few}
use Rattle.windows.proofs.look_up.Goals as goal

pub read-requires : goal.read-requires
read-requires c = omega (arith, within c.args.w.bits c.args.s (pair_wide c.args.w.lawful) c.requires)

pub returns : goal.returns
returns c =
    let w = c.args.w.bits in
    let s = c.args.s in
    let h = pair_wide c.args.w.lawful in
    let l = c.requires in
    let at : c.table_start.result + s ≡ table_start w + s = ap (λ i. i + s) c.table_start.ensures in
    record {
      unit_is = c.read.ensures.unit_is ∙ ap unit_of at ∙ unit_of_is w s h l;
      twos_is = ap nat_abs (c.read.ensures.twos_is ∙ ap twos_of at ∙ twos_of_is w s h l);
      small = entry_small w s h l;
      few = entry_few w s h l;
    }
