-- A small letter is raised, and another character stays. Assumes nothing.
use Rattle.std.proofs.Common.{sym, ◌∙◌}
use Rattle.meaning.specs.Hexadecimal.{raised}
use Rattle.sift.proofs.lines.raised.Goals as goal

pub returns-then-is_small : goal.returns-then-is_small
unfolding raised
returns-then-is_small c = rw (sym c.is_small.ensures ∙ c.if-is_small.true)

pub returns-else-is_small : goal.returns-else-is_small
unfolding raised
returns-else-is_small c = rw (sym c.is_small.ensures ∙ c.if-is_small.false)
