-- In the set of a whole width recode's promise is that of the width.
use Rattle.forms.proofs.Wholes.{recode_whole}
use Rattle.requests.proofs.recode.Goals as goal

pub returns : goal.returns
returns c =
    let a = c.args in
    (recode_whole a.width c.whole.result.largest (λ l h. c.whole.ensures.largest_is (l, h)) a.form _ _ _ _ _ _ _).0 (rw c.whole.ensures.width_is at c.recode.ensures)
