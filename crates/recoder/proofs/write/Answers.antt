-- The string has its form.
use Rattle.std.proofs.Common.{ap}
use Rattle.meaning.specs.Scalars.{number, bit_count}
use Rattle.scalar.specs.Orders.{ordered}
use Rattle.scalar.proofs.Bytes.{number_lt}
use Rattle.recoder.specs.Judged.{numbered}
use Rattle.recoder.proofs.Formed.{is_mof, is_wnaf, is_wmof, is_larger, is_smaller}
use Rattle.recoder.proofs.write.Goals.{in-Wmof, in-Closest, in-ClosestSmaller}
use Rattle.recoder.proofs.write.Goals as goal

pub returns-in-Wnaf-clause-form_in : goal.returns-in-Wnaf-clause-form_in
returns-in-Wnaf-clause-form_in c =
    let a = c.args in
    let small = number_lt (ordered a.order) a.s.now (λ i. (c.type_inv.s i).fits) in
    let d = rw (c.into.ensures.0, c.into.ensures.1) at c.write-in-Wnaf.ensures.digits_after in
    is_wnaf (numbered a.form) a.w.bits a.w.largest (number (ordered a.order) a.s.now) (bit_count a.s.now) _ c.requires.allowed.pair.between small (ap numbered c.in-Wnaf.is) d

pub returns-in-Mof-clause-form_in : goal.returns-in-Mof-clause-form_in
returns-in-Mof-clause-form_in c =
    let a = c.args in
    is_mof (numbered a.form) a.w.bits a.w.largest (number (ordered a.order) a.s.now) (bit_count a.s.now) _ (ap numbered c.in-Mof.is) c.write.ensures.digits_after

pub returns-clause-form_in : goal.returns-clause-form_in
returns-clause-form_in c =
    let a = c.args in
    let f = numbered a.form in
    let N = number (ordered a.order) a.s.now in
    let n = bit_count a.s.now in
    let between = c.requires.allowed.pair.between in
    let small = number_lt (ordered a.order) a.s.now (λ i. (c.type_inv.s i).fits) in
    elim c.match-form.branch [
      | in-Wmof w ↦ is_wmof f a.w.bits a.w.largest N n _ (ap numbered w.in-Wmof.is) (rw (w.turn-is, c.bits.ensures) at c.write-2.ensures.turned)
      | in-Closest w ↦ is_larger f a.w.bits a.w.largest N n _ between small (ap numbered w.in-Closest.is) (rw (w.turn-is, c.bits.ensures) at c.write-2.ensures.turned)
      | in-ClosestSmaller w ↦ is_smaller f a.w.bits a.w.largest N n _ between small (ap numbered w.in-ClosestSmaller.is) (rw (w.turn-is, c.bits.ensures) at c.write-2.ensures.turned)
    ]
