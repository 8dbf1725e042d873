-- The ones counted over the marks are the weight.
use Rattle.std.proofs.Common.{◌∙◌, ap, arith}
use Rattle.forms.proofs.Strings.{top_le}
use Rattle.places.specs.Ones.{ones_of}
use Rattle.places.proofs.Marking.{marks_weight}
use Rattle.recoder.proofs.fill.Goals as goal

pub overflow_cast-result-2 : goal.overflow_cast-result-2
overflow_cast-result-2 c = record { fits = omega (arith, c.write-top.ensures.value, top_le c.write-top.new.digits, c.write-top.auto.digits, c.requires.digits_len, c.requires.s_len_bound) }

pub returns : goal.returns
returns c =
    let ds = c.write-top.new.digits in
    record {
      formed = c.write-top.ensures.form_in;
      marks_are = c.write-top.ensures.marks_after;
      weight_is = c.weigh.ensures.0 ∙ ap ones_of c.write-top.ensures.marks_after ∙ marks_weight ds (omega (arith, c.write-top.auto.digits, c.requires.digits_len, c.requires.s_len_bound));
      top_is = c.write-top.ensures.value;
    }
