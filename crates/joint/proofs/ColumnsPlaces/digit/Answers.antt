-- The column of both rows at a place.
use Rattle.std.proofs.Common.{◌≡◌, ◌∙◌, sym, get_or, pos, arith, rules}
use mir.Syntax.{w8}
use mir.Facts.{to_z-of_z}
use borrow.Author.Rules.{sfits_of}
use Rattle.meaning.specs.Joint.{column}
use Rattle.pairs.proofs.Columns.{columns_at, columns_length}
use Rattle.joint.proofs.ColumnsPlaces.digit.Goals as goal

pub bounds-self-i : goal.bounds-self-i
bounds-self-i c = let s = c.args.self.now in omega (arith, c.requires, columns_length s.first.now s.second.now s.equal)

pub bounds-self-i-2 : goal.bounds-self-i-2
bounds-self-i-2 c = let s = c.args.self.now in omega (arith, c.requires, s.equal, columns_length s.first.now s.second.now s.equal)

pub returns : goal.returns
returns c =
    let s = c.args.self.now in
    let here : c.column.result ≡ column (get_or s.first.now c.args.i (pos 0)) (get_or s.second.now c.args.i (pos 0)) = search rules in
    to_z-of_z {w = w8} (sfits_of c.column.type_inv) ∙ here ∙ sym (columns_at s.first.now s.second.now c.args.i)
