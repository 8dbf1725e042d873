-- Each return is one step, by the step that the word says.
use Rattle.std.proofs.Common.{sym, ap, subst, ◌∙◌}
use Rattle.tape.specs.Steps.{side, told}
use Rattle.walk.proofs.Steps.{steps_double, steps_load, steps_add, steps_bad}
use Rattle.run.proofs.Words.{says}
use Rattle.run.proofs.step.Goals as goal

pub load-requires : goal.load-requires
load-requires g c = subst (g.C.Chip.Entry c.args.chip.now) (says c.args.word c.decode.ensures c.in-Load.is).1 c.requires.held.entry

pub add-requires : goal.add-requires
add-requires g c = (c.requires.steady.value, subst (g.C.Chip.Entry c.args.chip.now) (says c.args.word c.decode.ensures c.in-Add.is).1 c.requires.held.entry)

pub returns-in-Double-clause-stepped : goal.returns-in-Double-clause-stepped
returns-in-Double-clause-stepped g c = steps_double _ _ _ _ _ _ (sym c.decode.ensures ∙ ap told c.in-Double.is) c.double.ensures.doubled

pub returns-in-Load-clause-stepped : goal.returns-in-Load-clause-stepped
returns-in-Load-clause-stepped g c = steps_load _ _ _ _ _ _ (side c.in-Load.m.sign) c.in-Load.m.entry (sym c.decode.ensures ∙ ap told c.in-Load.is) c.load.ensures.loaded

pub returns-in-Add-clause-stepped : goal.returns-in-Add-clause-stepped
returns-in-Add-clause-stepped g c = steps_add _ _ _ _ _ _ (side c.in-Add.m.sign) c.in-Add.m.entry (sym c.decode.ensures ∙ ap told c.in-Add.is) c.add.ensures.added

pub returns-in-Bad-clause-stepped : goal.returns-in-Bad-clause-stepped
returns-in-Bad-clause-stepped g c = steps_bad _ _ _ _ _ _ c.requires.held.double (sym c.decode.ensures ∙ ap told c.in-Bad.is)
