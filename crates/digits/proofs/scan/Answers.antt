-- All digits are in the set, or one is not.
use Rattle.std.proofs.Common.{◌∙◌, sym}
use Rattle.digits.proofs.Scans.{sound_all}
use Rattle.digits.proofs.scan.Goals as goal

pub returns : goal.returns
returns c =
    record {
      sound = sound_all c.args.width.largest c.args.digits.now (sym c.if-not-sound.ensures);
      weight_is = c.from.ensures ∙ c.weight.ensures;
      top_is = c.top.ensures;
    }
