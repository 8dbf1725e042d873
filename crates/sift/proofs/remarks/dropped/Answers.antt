-- The number, the word, the refusal and a line feed stand one behind the other. Assumes nothing.
use Rattle.std.proofs.Common.{sym, ap, ◌∙◌}
use Rattle.meaning.specs.Salvage.{decimal, dropped}
use Rattle.layout.proofs.Salvage.{told_one}
use Rattle.refusals.specs.Coded.{coded}
use Rattle.sift.proofs.Puts.{puts_text, puts_then}
use Rattle.sift.proofs.remarks.dropped.Goals as goal

pub returns : goal.returns
returns c =
    let refusal = puts_text (ap decimal (c.from-2.ensures ∙ c.from.ensures)) c.put_decimal-at-2.ensures.puts in
    puts_text (sym (told_one c.args.number (dropped (coded c.args.reason)))) (puts_then c.put_decimal-at.ensures.puts (puts_then (puts_then c.put-at.ensures refusal) c.put.ensures))
