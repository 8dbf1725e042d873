-- The number and the words stand one behind the other. Assumes nothing.
use Rattle.std.proofs.Common.{sym}
use Rattle.meaning.specs.Salvage.{case_only}
use Rattle.layout.proofs.Salvage.{told_one}
use Rattle.sift.proofs.Puts.{puts_text, puts_then}
use Rattle.sift.proofs.remarks.case_only.Goals as goal

pub returns : goal.returns
returns c = puts_text (sym (told_one c.args.number case_only)) (puts_then c.put_decimal-at.ensures.puts c.put.ensures)
