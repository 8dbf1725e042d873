-- A move with a minus negates, and nothing else does.
use Rattle.second.proofs.Words.{negates_minus, negates_plus, negates_none}
use Rattle.second.proofs.negates.Goals as goal

pub returns-in_default : goal.returns-in_default
returns-in_default c = negates_none c.args.word _ c.decode.ensures c.in_default.not-Load c.in_default.not-Add

pub returns-in-Minus : goal.returns-in-Minus
returns-in-Minus c = negates_minus c.args.word c.decode.ensures c.in-Load.m c.in-Minus.is c.in-Load.is

pub returns-in_default-matches : goal.returns-in_default-matches
returns-in_default-matches c = negates_plus c.args.word c.decode.ensures c.in-Load.m c.in_default-matches.is c.in-Load.is
