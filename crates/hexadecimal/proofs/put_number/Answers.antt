-- The second pair stands behind the first. Assumes nothing.
use Rattle.std.proofs.Common.{◌≡◌, arith, ap, ◌∙◌, [], ◌+◌, ◌/◌, ◌%◌, get_or}
use Rattle.std.proofs.lemmas.List.Edits.{sets}
use Rattle.meaning.specs.Hexadecimal.{pair}
use Rattle.hexadecimal.proofs.Writing.{number_then}
use Rattle.hexadecimal.proofs.put_number.Goals as goal

pub returns : goal.returns
returns c =
    let a = c.args in
    let b = c.to_be_bytes in
    let high : get_or b.result 0 0 ≡ a.x / 256 = ap (λ l. get_or l 0 0) b.ensures ∙ omega arith in
    let low : get_or b.result 1 0 ≡ a.x % 256 = ap (λ l. get_or l 1 0) b.ensures in
    c.put-2.ensures
    ∙ ap (λ l. sets l (a.at + 2) (pair (get_or b.result 1 0) [])) c.put.ensures
    ∙ number_then a.out.now a.at (get_or b.result 0 0) (get_or b.result 1 0)
    ∙ simp (high, low)
