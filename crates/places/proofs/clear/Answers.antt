-- Nine words of no marks are the marks of zeros.
use Rattle.std.proofs.Common.{length, replicate, sym, ap, ◌∙◌}
use Rattle.meaning.specs.Recoding.{marks_of}
use Rattle.places.proofs.Marking.{marks_zeros}
use Rattle.places.proofs.clear.Goals as goal

pub returns-clause-marks_after : goal.returns-clause-marks_after
returns-clause-marks_after c =
    c.fill-2.ensures.after (λ y e. e) ∙ ap (λ n. replicate n 0) c.requires ∙ sym (marks_zeros (length c.args.digits.now))
    ∙ ap marks_of (sym (c.fill.ensures.after (λ y e. e)))
