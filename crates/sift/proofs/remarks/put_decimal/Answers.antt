-- What is printed of a number is the number's decimal characters. Assumes nothing.
use Rattle.std.proofs.Common.{◌∙◌}
use Rattle.sift.proofs.Puts.{puts_text}
use Rattle.sift.proofs.Decimals.{printed}
use Rattle.sift.proofs.remarks.put_decimal.Goals as goal

pub returns-clause-puts : goal.returns-clause-puts
returns-clause-puts c = puts_text (c.as_bytes.ensures.value ∙ c.format-text.ensures.text ∙ printed c.args.n c.ranges.n.fits) c.put.ensures
