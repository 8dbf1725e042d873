-- With no place left the digits are those of the form.
use Rattle.std.proofs.Common.{◌≡◌, subst, arith, rules, ◌∙◌}
use Rattle.meaning.specs.Scalars.{number, bit_count}
use Rattle.scalar.specs.Orders.{ordered}
use Rattle.mof.specs.Above.{Above}
use Rattle.mof.proofs.Above.{above_all}
use Rattle.mof.proofs.write.Goals as goal

pub returns-clause-digits_after : goal.returns-clause-digits_after
returns-clause-digits_after c =
    let a = c.args in
    let l = c.loop-left in
    let none : l.left ≡ 0 = omega arith in
    let last : _ ≡ l.places.digits.now = search rules in
    last ∙ above_all (subst (λ m. Above (number (ordered a.order) a.s.now) (bit_count a.s.now) m l.places.digits.now) none l.invariant.above)
