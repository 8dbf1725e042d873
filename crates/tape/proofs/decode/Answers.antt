-- Each arm is the step of its code.
use Rattle.std.proofs.Common.{refl, arith}
use Rattle.walk.proofs.Words.{step_is, bad_double, bad_code}
use Rattle.tape.proofs.decode.Goals as goal

pub returns-in-0 : goal.returns-in-0
returns-in-0 c = step_is c.args.word 0 0 c.in-0.is c.if-entry-eq0.true

pub returns-in-1 : goal.returns-in-1
returns-in-1 c = step_is c.args.word 1 _ c.in-1.is refl

pub returns-in-2 : goal.returns-in-2
returns-in-2 c = step_is c.args.word 2 _ c.in-2.is refl

pub returns-in-3 : goal.returns-in-3
returns-in-3 c = step_is c.args.word 3 _ c.in-3.is refl

pub returns-in-4 : goal.returns-in-4
returns-in-4 c = step_is c.args.word 4 _ c.in-4.is refl

pub returns-in_default : goal.returns-in_default
returns-in_default c = bad_double c.args.word c.in-0.is c.if-entry-eq0.false

pub returns-in_default-2 : goal.returns-in_default-2
returns-in_default-2 c = bad_code c.args.word (omega arith)
