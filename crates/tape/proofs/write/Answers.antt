-- The load first, then place by place. A digit comes as its bits. Assumes nothing.
use Rattle.std.proofs.Common.{◌≡◌, ℕ, ◌-◌, ◌<◌, ◌≤◌, List, [], ◌∷◌, ◌++◌, length, get_or, refl, sym, ap, ◌∙◌, arith}
use lib.IntN.{ℤ, pos}
use lib.ListN.{set, length-set}
use lib.Seq.{drop-set-lt}
use mir.Syntax.{w8}
use mir.Val.{to_z, of_z}
use mir.Facts.{to_z-of_z}
use borrow.Author.Rules.{sfits_of}
use Rattle.meaning.specs.Digits.{top}
use Rattle.meaning.specs.Words.{load, word_of}
use Rattle.meaning.specs.Taping.{moves, tape_of}
use Rattle.walk.proofs.Lengths.{tape_some, at_top}
use Rattle.tape.specs.declared.Move.{Move}
use Rattle.tape.specs.declared.Step.TheVariants.{Load}
use Rattle.tape.specs.Steps.{told, Moves}
use Rattle.tape.proofs.Steps.{load_is}
use Rattle.tape.proofs.Writes.{laid_none, laid_load, laid_only, laid_after, laid_next, laid_down, laid_room, laid_all}
use Rattle.tape.proofs.write.Goals as goal

-- the first word is the load of the digit at the top
first : (ds : List ℤ) (high : ℕ) (d : ℤ) {m : Move} {x : ℕ} → to_z w8 (of_z w8 d) ≡ get_or ds (high - 1) (pos 0) → 0 < high → high ≡ top ds
    → Moves (to_z w8 (of_z w8 d)) m → x ≡ word_of (told (Load m)) → moves load (get_or ds (high - 1) (pos 0)) ≡ x ∷ []
first ds high d f some is M e = load_is (rw f at M) (at_top ds (high - 1) (omega arith)).some ∙ ap (λ x. x ∷ []) (sym e)

-- and leaves the room
room : (ds : List ℤ) (words : List ℕ) (x : ℕ) → length (tape_of ds) ≤ length words → length (tape_of ds) ≤ length (set words 0 x)
room ds words x h = rw length-set h

pub returns-then-high-eq0 : goal.returns-then-high-eq0
returns-then-high-eq0 g c = laid_none (g.P.Places.string c.args.digits.now) c.args.words.now (omega arith)

pub digit-requires : goal.digit-requires
digit-requires g c = (at_top (g.P.Places.string c.args.digits.now) (c.args.high - 1) (omega (arith, c.requires.high_value))).within

pub bounds-words-0 : goal.bounds-words-0
bounds-words-0 g c = omega (arith, c.requires.digits_in_bounds, tape_some (g.P.Places.string c.args.digits.now) (omega (arith, c.requires.high_value, c.if-high-eq0.false)))

pub returns-then-high-eq1 : goal.returns-then-high-eq1
returns-then-high-eq1 g c =
    let ds = g.P.Places.string c.args.digits.now in
    let found = to_z-of_z {w = w8} (sfits_of c.digit.type_inv) ∙ c.digit.ensures in
    laid_only ds c.args.words.now c.requires.digits_in_bounds (c.args.high - 1) _ (omega arith) (first ds c.args.high c.digit.result found (omega arith) c.requires.high_value c.move_of.ensures c.encode.ensures) (omega arith)

pub loop-i-init : goal.loop-i-init
loop-i-init g c =
    let ds = g.P.Places.string c.args.digits.now in
    let ws = c.args.words.now in
    let found = to_z-of_z {w = w8} (sfits_of c.digit.type_inv) ∙ c.digit.ensures in (
      omega arith,
      laid_after ds ws c.requires.digits_in_bounds c.encode.result
          (laid_load ds ws c.requires.digits_in_bounds (c.args.high - 1) _ (omega arith) (first ds c.args.high c.digit.result found (omega arith) c.requires.high_value c.move_of.ensures c.encode.ensures)),
    )

pub digit-requires-in-loop-i : goal.digit-requires-in-loop-i
digit-requires-in-loop-i g c = omega (arith, c.loop-i.invariant.1.within)

pub lower-at-requires : goal.lower-at-requires
lower-at-requires g c =
    let ds = g.P.Places.string c.args.digits.now in
    let l = c.loop-i in
    laid_next ds _ (room ds c.args.words.now _ c.requires.digits_in_bounds) l.words l.i l.at _ l.invariant.1 l.invariant.0 refl (omega arith)

pub loop-i-preserved : goal.loop-i-preserved
loop-i-preserved g c =
    let ds = g.P.Places.string c.args.digits.now in
    let l = c.loop-i in
    let r = room ds c.args.words.now _ c.requires.digits_in_bounds in
    let found = to_z-of_z {w = w8} (sfits_of c.digit-in-loop-i.type_inv) ∙ c.digit-in-loop-i.ensures in
    (omega arith, laid_down ds _ r l.words l.i l.at _ l.invariant.1 l.invariant.0 found _ _ (laid_next ds _ r l.words l.i l.at _ l.invariant.1 l.invariant.0 refl (omega arith)) c.lower-at.ensures)

-- the last digit stands under the place reached
under : (ds : List ℤ) (i : ℕ) (d : ℤ) → to_z w8 (of_z w8 d) ≡ get_or ds 0 (pos 0) → i ≤ 1 → to_z w8 (of_z w8 d) ≡ get_or ds (i - 1) (pos 0)
under ds i d e h =
    let none : 0 ≡ i - 1 = omega arith in
    e ∙ ap (λ j. get_or ds j (pos 0)) none

pub lowest-requires : goal.lowest-requires
lowest-requires g c =
    let ds = g.P.Places.string c.args.digits.now in
    let l = c.loop-i in
    let found = to_z-of_z {w = w8} (sfits_of c.digit-2.type_inv) ∙ c.digit-2.ensures in
    laid_room ds _ (room ds c.args.words.now _ c.requires.digits_in_bounds) l.words l.i l.at _ l.invariant.1 l.invariant.0 (under ds l.i c.digit-2.result found (omega arith))

pub returns : goal.returns
returns g c =
    let ds = g.P.Places.string c.args.digits.now in
    let l = c.loop-i in
    let found = to_z-of_z {w = w8} (sfits_of c.digit-2.type_inv) ∙ c.digit-2.ensures in
    c.lowest.ensures ∙ laid_all ds _ (room ds c.args.words.now _ c.requires.digits_in_bounds) l.words l.i l.at _ l.invariant.1 l.invariant.0 (under ds l.i c.digit-2.result found (omega arith)) (omega arith)
    ∙ ap (λ ws. tape_of ds ++ ws) (drop-set-lt (length (tape_of ds)) c.args.words.now 0 _ (tape_some ds (omega (arith, c.requires.high_value))))
