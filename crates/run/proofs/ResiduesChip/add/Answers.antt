-- A subtraction adds what the multiple lacks of the modulus. Assumes nothing.
use Rattle.std.proofs.Common.{◌+◌, ◌-◌, ◌%◌, sym, ap, ◌∙◌}
use Rattle.tape.specs.Steps.{side}
use Rattle.run.specs.Walks.{entry_in, table_of}
use Rattle.run.proofs.Moves.{less_is}
use Rattle.run.proofs.ResiduesChip.add.Goals as goal

pub returns-in-Minus-clause-added : goal.returns-in-Minus-clause-added
returns-in-Minus-clause-added c =
    let a = c.args in
    let chip = a.self.now in
    c.plus-in-Minus.ensures ∙ ap (λ e. (a.value + (chip.modulus - entry_in chip.multiples.now e)) % chip.modulus) c.from.ensures
    ∙ less_is chip.modulus chip.multiples.now a.value a.step.entry
    ∙ sym (ap (λ s. (a.value + table_of chip.modulus chip.multiples.now (side s) a.step.entry) % chip.modulus) c.in-Minus.is)
