-- The tests of the kind say which parts are there; a line that fails them all is malformed. Assumes nothing.
use Rattle.std.proofs.Common.{◌≡◌, true, arith, sym, ◌∙◌}
use borrow.Author.Tests.{eqb-true}
use Rattle.meaning.specs.Hexadecimal.{all_hex}
use Rattle.frames.proofs.Kinding.{odd_strange, unhex_strange, nothing_strange, one_stated, sparse_frame, plain_frame, none_strange}
use Rattle.frames.proofs.kinds.kind_of.Goals as goal
use Rattle.frames.proofs.kinds.kind_of.Goals.{then-is_empty-via-then-is_empty, then-is_empty-via-else-is_empty+then-line-eq1, then-is_empty-via-else-is_empty+else-line-eq1+then-not-all_hex}

pub returns-then-is_empty : goal.returns-then-is_empty
returns-then-is_empty c =
    let line = c.args.line.now in
    elim c.then-is_empty.branch [
      | then-is_empty-via-then-is_empty w ↦ nothing_strange line (eqb-true _ 0 (sym w.if-is_empty.ensures))
      | then-is_empty-via-else-is_empty+then-line-eq1 w ↦ odd_strange line w.if-line-eq1.true
      | then-is_empty-via-else-is_empty+else-line-eq1+then-not-all_hex w ↦ unhex_strange line (sym w.all_hex.ensures ∙ w.if-not-all_hex.true)
    ]

pub returns-in-1-1-to-16 : goal.returns-in-1-1-to-16
returns-in-1-1-to-16 c =
    let line = c.args.line.now in
    let hex : all_hex line ≡ true = sym c.all_hex.ensures ∙ c.if-not-all_hex.false in
    (one_stated line hex (omega arith) c.byte_at.result c.byte_at.ensures (omega arith) (λ e. omega arith) (omega arith) (λ e. omega arith), λ e. omega arith)

pub returns-in_default-eq162 : goal.returns-in_default-eq162
returns-in_default-eq162 c =
    let line = c.args.line.now in
    let hex : all_hex line ≡ true = sym c.all_hex.ensures ∙ c.if-not-all_hex.false in
    sparse_frame line hex (omega arith) c.byte_at.result c.byte_at.ensures (λ e. omega arith) (omega arith) (omega arith) (omega arith)

pub returns-in_default-eq0 : goal.returns-in_default-eq0
returns-in_default-eq0 c =
    let line = c.args.line.now in
    let hex : all_hex line ≡ true = sym c.all_hex.ensures ∙ c.if-not-all_hex.false in
    plain_frame line hex (omega arith) c.byte_at.result c.byte_at.ensures (λ e. omega arith) (λ e. omega arith) (omega arith) (omega arith)

pub returns-in_default : goal.returns-in_default
returns-in_default c =
    let line = c.args.line.now in
    let hex : all_hex line ≡ true = sym c.all_hex.ensures ∙ c.if-not-all_hex.false in
    none_strange line hex (omega arith) c.byte_at.result c.byte_at.ensures (λ e l h n. omega arith) (λ e h z. omega arith) (λ e. omega arith)

pub returns-in_default-2 : goal.returns-in_default-2
returns-in_default-2 c =
    let line = c.args.line.now in
    let hex : all_hex line ≡ true = sym c.all_hex.ensures ∙ c.if-not-all_hex.false in
    none_strange line hex (omega arith) c.byte_at.result c.byte_at.ensures (λ e l h n. omega arith) (λ e h z. omega arith) (λ e. omega arith)

pub returns-in_default-3 : goal.returns-in_default-3
returns-in_default-3 c =
    let line = c.args.line.now in
    let hex : all_hex line ≡ true = sym c.all_hex.ensures ∙ c.if-not-all_hex.false in
    none_strange line hex (omega arith) c.byte_at.result c.byte_at.ensures (λ e l h n. omega arith) (λ e h z. omega arith) (λ e. omega arith)

pub returns-in_default-4 : goal.returns-in_default-4
returns-in_default-4 c =
    let line = c.args.line.now in
    let hex : all_hex line ≡ true = sym c.all_hex.ensures ∙ c.if-not-all_hex.false in
    none_strange line hex (omega arith) c.byte_at.result c.byte_at.ensures (λ e l h n. omega arith) (λ e h z. omega arith) (λ e. omega arith)

pub returns-in_default-5 : goal.returns-in_default-5
returns-in_default-5 c =
    let line = c.args.line.now in
    let hex : all_hex line ≡ true = sym c.all_hex.ensures ∙ c.if-not-all_hex.false in
    none_strange line hex (omega arith) c.byte_at.result c.byte_at.ensures (λ e l h n. omega arith) (λ e h z. omega arith) (λ e. omega arith)

pub returns-in_default-6 : goal.returns-in_default-6
returns-in_default-6 c =
    let line = c.args.line.now in
    let hex : all_hex line ≡ true = sym c.all_hex.ensures ∙ c.if-not-all_hex.false in
    none_strange line hex (omega arith) c.byte_at.result c.byte_at.ensures (λ e l h n. omega arith) (λ e h z. omega arith) (λ e. omega arith)
