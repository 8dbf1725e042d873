-- Before the first line feed stands a stretch without one, which is kept. Assumes nothing.
use Rattle.std.proofs.Common.{◌≡◌, ◌≢◌, ◌<◌, ℕ, rules, arith, length, get_or}
use Rattle.meaning.specs.Lines.{line_feed}
use Rattle.cutter.proofs.Pieces.{none_plain}
use Rattle.cutter.proofs.Keeping.{cut_open, cut_closed}
use Rattle.cutter.proofs.next.Goals as goal

pub returns-in-Some : goal.returns-in-Some
returns-in-Some c =
    let piece = c.args.piece.now in
    let end = c.in-Some.end in
    let within : end < length piece = search rules in
    let before : (k : ℕ) → k < end → get_or piece k 0 ≢ line_feed = search rules in
    let found : get_or piece end 0 ≡ line_feed = search rules in
    let k = c.keep.ensures in
    record { moves = omega arith; used_within = omega arith; kept_within = k.within; ends = λ p q. cut_closed piece end before within found p (k.keeps p q) }

pub returns-in-None : goal.returns-in-None
returns-in-None c =
    let piece = c.args.piece.now in
    let none : (k : ℕ) → k < length piece → get_or piece k 0 ≢ line_feed = search rules in
    let k = c.keep-in-None.ensures in
    record { kept_within = k.within; goes_on = λ p q. cut_open piece (none_plain piece none) p (k.keeps p q) }
