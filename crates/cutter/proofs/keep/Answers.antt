-- The characters for which there is room stand behind those that were kept. Assumes nothing.
use Rattle.std.proofs.Common.{◌≡◌, ◌++◌, ◌+◌, ◌-◌, length, take, arith, ap, ◌∙◌}
use Rattle.std.proofs.lemmas.Slice.{take-put_mid}
use borrow.Rule.Slice.PartMut.{same_len_mid}
use Rattle.std.proofs.Math.Seq.{length-take-le}
use Rattle.cutter.proofs.Keeping.{keeps_more}
use Rattle.cutter.proofs.keep.Goals as goal

pub returns : goal.returns
returns c =
    let a = c.args.kept in
    let n = c.min-count.result in
    let line = c.args.line.now in
    let more = c.copy_from_slice.new.self in
    let characters = c.args.characters.now in
    let many : length more ≡ n = ap length c.copy_from_slice.ensures.after ∙ length-take-le n characters (omega arith) in
    let same = same_len_mid a (a + n - a) line more c.copy_from_slice.auto.self in
    record {
      within = omega arith;
      keeps = keeps_more characters line a n _ c.min-count.ensures
          (take-put_mid a (a + n - a) line more (a + n) (omega arith) (omega arith) ∙ ap (λ l. take a line ++ l) c.copy_from_slice.ensures.after) same;
    }
