-- The bytes read are the frame's, and the first places of the digits are the string that is written.
use Rattle.std.proofs.Common.{arith, ◌≡◌, ◌≤◌, sym, ap, refl, ◌∙◌, length, ◌+◌, ◌-◌, ◌*◌, ◌/◌, Ok}
use Rattle.std.specs.Prelude.{take}
use lib.ListN.{length-drop}
use lib.Seq.{length-take-le}
use Rattle.meaning.specs.Digits.{most_places}
use Rattle.meaning.specs.Scalars.{bit_count}
use Rattle.meaning.specs.Hexadecimal.{bytes_of}
use Rattle.meaning.specs.Requests.{scalar_of}
use Rattle.hexadecimal.proofs.Characters.{bytes_count}
use Rattle.refusals.proofs.Coded.{coded_some}
use Rattle.digits.specs.declared.Accepted.{Accepted}
use Rattle.digits.specs.Tallies.{answered}
use Rattle.frames.specs.Told.{version_of}
use Rattle.requests.specs.Answered.{Worked}
use Rattle.requests.proofs.Requests.{frame_least, frame_most, frame_hex}
use Rattle.requests.proofs.Answering.{answer_most, worked, room, string_is, filled_refused, filled_accepted}
use Rattle.requests.proofs.frame.Goals.{After-recode}
use Rattle.requests.proofs.frame.Goals as goal

-- what is left in the memory that is worked in
work : (c : After-recode) → Worked c.args.line.now c.args.bytes.now c.args.digits.now c.args.marks.now c.read.new.bytes c.recode.new.digits c.recode.new.marks (answered c.recode.result)
work c =
    let line = c.args.line.now in
    worked line c.args.bytes.now (frame_least line c.requires.t) (omega (arith, frame_most line c.requires.t, c.requires.lent.bytes_fit)) c.read.ensures c.recode.ensures

-- where the frame is accepted: the first places are the string, and they are few
module _ (c : After-recode) (a : Accepted) (is : c.recode.result ≡ Ok a) where
  done : Worked c.args.line.now c.args.bytes.now c.args.digits.now c.args.marks.now c.read.new.bytes c.recode.new.digits c.recode.new.marks (answered (Ok a))
  done = rw is at (work c)

  places : 8 * (length c.args.line.now / 2 - 3) + 1 ≡ bit_count (scalar_of c.args.line.now) + 1
  places = omega (arith, length-drop 3 (bytes_of c.args.line.now), bytes_count c.args.line.now)

  fits : 8 * (length c.args.line.now / 2 - 3) + 1 ≤ length c.recode.new.digits
  fits = omega (arith, places, c.recode.auto.digits, (room _ _ done.recoded refl).1)

  string : take (8 * (length c.args.line.now / 2 - 3) + 1) c.recode.new.digits ≡ (done.recoded.accepted refl).string
  string = ap (λ n. take n c.recode.new.digits) places ∙ string_is _ _ done.recoded refl c.recode.auto.digits

  short : length (done.recoded.accepted refl).string ≤ most_places
  short = omega (arith, places, (room _ _ done.recoded refl).0, sym (length-take-le _ _ fits) ∙ ap length string)

pub read-requires-clause-t : goal.read-requires-clause-t
read-requires-clause-t c = frame_hex c.args.line.now c.requires.t

pub read-requires-clause-line_len_bound : goal.read-requires-clause-line_len_bound
read-requires-clause-line_len_bound c = omega (arith, frame_most c.args.line.now c.requires.t, c.requires.lent.bytes_fit)

pub slice_bounds-recode-count : goal.slice_bounds-recode-count
slice_bounds-recode-count c = omega (arith, frame_least c.args.line.now c.requires.t)

pub slice_bounds-recode-start : goal.slice_bounds-recode-start
slice_bounds-recode-start c = omega (arith, frame_least c.args.line.now c.requires.t)

pub slice_bounds-recode-end : goal.slice_bounds-recode-end
slice_bounds-recode-end c = omega (arith, frame_most c.args.line.now c.requires.t, c.requires.lent.bytes_fit, c.read.auto.bytes)

pub overflow_sub-places : goal.overflow_sub-places
overflow_sub-places c = omega (arith, frame_least c.args.line.now c.requires.t)

pub accepted-requires-clause-digits_len_bound : goal.accepted-requires-clause-digits_len_bound
accepted-requires-clause-digits_len_bound c =
    let q = (goal.at.accepted-requires-clause-digits_len_bound c).After-recode in
    let few = short q c.in-Ok.accepted c.in-Ok.is in
    rw (string q c.in-Ok.accepted c.in-Ok.is) (few, omega (arith, answer_most (version_of c.args.version) _ few, c.requires.lent.answer_fits))

pub returns-in-Err : goal.returns-in-Err
returns-in-Err c =
    let W = rw c.in-Err.is at (work (goal.at.returns-in-Err c).After-recode) in
    filled_refused _ c.args.line.now _ _ _ _ _ _ _ _ _ c.requires.t c.requires.lent W (coded_some c.in-Err.refusal.reason) c.refused.ensures

pub returns-in-Ok : goal.returns-in-Ok
returns-in-Ok c =
    let q = (goal.at.returns-in-Ok c).After-recode in
    filled_accepted _ c.args.line.now _ _ _ _ _ _ _ _ _ c.requires.t c.requires.lent (done q c.in-Ok.accepted c.in-Ok.is) refl (rw (string q c.in-Ok.accepted c.in-Ok.is) at c.accepted.ensures)
