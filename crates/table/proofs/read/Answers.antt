-- The test of the whole table is computed here.
use lib.Count.{count_leading_zeros, count_trailing_zeros}
use Rattle.meaning.specs.Windows.{window_worth, shrink, entry_unit, entry_twos}
use Rattle.table.specs.declared.TheConstants.{WINDOWS}
use lib.IntN.{pos}
use Rattle.table.specs.Tables.{width_of, window_of, unit_of, twos_of}
use Rattle.table.proofs.Entries.{table}
use Rattle.table.proofs.read.Goals as goal

pub returns : goal.returns
unfolding unit_of twos_of width_of window_of entry_unit entry_twos window_worth shrink count_trailing_zeros count_leading_zeros
returns c = table WINDOWS tt (record { unit = pos 0; twos = 0 }) c.args.at c.requires
