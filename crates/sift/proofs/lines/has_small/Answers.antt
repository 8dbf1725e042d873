-- A line holds a small letter exactly if some character is one. Assumes nothing.
use Rattle.std.proofs.Common.{◌≡◌, true, rules, IsTrue, ◌↔◌, SomeIndex, get_or}
use Rattle.meaning.specs.Hexadecimal.{between}
use Rattle.sift.proofs.Letters.{small_some}
use Rattle.sift.proofs.lines.has_small.Goals as goal

pub returns : goal.returns
returns c =
    let line = c.args.line.now in
    let some : IsTrue c.any.result ↔ SomeIndex line (λ k. between 97 102 (get_or line k 0) ≡ true) = search rules in
    small_some line c.any.result some
