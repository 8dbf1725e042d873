-- Past the three tests the line is read, and each test that fails says that it is not to be. Assumes nothing.
use Rattle.std.proofs.Common.{T, arith, length, subst, sym, ◌∙◌}
use Rattle.hexadecimal.specs.Pairs.{Readable}
use Rattle.hexadecimal.proofs.Characters.{bytes_count}
use Rattle.hexadecimal.proofs.Reading.{read_whole, read_none}
use Rattle.hexadecimal.proofs.read_pairs.Goals as goal
use Rattle.hexadecimal.proofs.read_pairs.Goals.{then-line-eq1-via-then-line-eq1, then-line-eq1-via-else-line-eq1+then-bytes-count, then-line-eq1-via-else-line-eq1+else-bytes-count+then-not-all_hex}

pub returns-then-line-eq1 : goal.returns-then-line-eq1
returns-then-line-eq1 c =
    read_none (λ R. elim c.then-line-eq1.branch [
      | then-line-eq1-via-then-line-eq1 w ↦ R.0 w.if-line-eq1.true
      | then-line-eq1-via-else-line-eq1+then-bytes-count w ↦ omega (arith, R.2, bytes_count c.args.line.now)
      | then-line-eq1-via-else-line-eq1+else-bytes-count+then-not-all_hex w ↦ subst T (sym w.all_hex.ensures ∙ w.if-not-all_hex.true) R.1
    ])

pub returns : goal.returns
returns c =
    let a = c.args in
    let R : Readable a.line.now (length a.bytes.now) = (c.if-line-eq1.false, subst T (sym c.if-not-all_hex.false ∙ c.all_hex.ensures) tt, omega (arith, bytes_count a.line.now)) in
    read_whole a.line.now a.bytes.now R c.read.ensures
