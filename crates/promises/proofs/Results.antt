-- The answers of the calls themselves: two that tell the meaning the same are one, so a promise that determines what is told determines the `Result`. Assumes nothing.
use mathlib.Core.Path.{◌≡◌, sym, ap}
use Prim.Native.Nat.{ℕ}
use native.Mathlib.Omega.{arith}
use Rattle.std.specs.Prelude.{Result, Ok, Err}
use Rattle.meaning.specs.Digits as Digits
use Rattle.meaning.specs.Taping as Taping
use Rattle.meaning.specs.Joining as Joining
use Rattle.meaning.specs.Searching as Searching
use Rattle.meaning.specs.Choosing as Choosing
use Rattle.meaning.specs.Lighter as Lighter
use Rattle.meaning.specs.Frames as Frames
use Rattle.refusals.specs.declared.Reason.{Reason}
use Rattle.refusals.specs.declared.Refusal.{Refusal}
use Rattle.refusals.proofs.Coded.{coded_some, coded_same, refusal_same}
use Rattle.digits.specs.declared.Accepted.{Accepted}
use Rattle.digits.specs.Tallies.{answered as checked}
use Rattle.tape.specs.declared.Written.{Written}
use Rattle.tape.specs.Answers.{answered as taped}
use Rattle.joint.specs.declared.Planned.{Planned}
use Rattle.joint.specs.Answers.{answered as joined}
use Rattle.search.specs.Answers.{searched}
use Rattle.choice.specs.declared.Choice.{Choice}
use Rattle.choice.specs.Answers.{chosen}
use Rattle.lighter.specs.declared.Which.{Which}
use Rattle.lighter.specs.declared.Which.TheVariants.{First, Second}
use Rattle.lighter.specs.declared.Part.{Part}
use Rattle.lighter.specs.Answers.{numbered, answered as picked}
use Rattle.frames.specs.declared.reading.Reading.{Reading}
use Rattle.frames.specs.declared.reading.Reading.TheVariants.{Stated, String}
use Rattle.frames.specs.Told.{wrote, said, Stating}

-- recode and the checks
accepted : ℕ → ℕ → Result Accepted Refusal
accepted k t = Ok (record { weight = k; top = t })

pub accepted_same : (a b : Result Accepted Refusal) → checked a ≡ checked b → a ≡ b
unfolding accepted
accepted_same (Ok x) (Ok y) q =
    let k = ap (λ (t : Digits.Tally). t.weight) q in
    let t = ap (λ (t : Digits.Tally). t.top) q in
    let same : accepted x.weight x.top ≡ accepted y.weight y.top = cc in
    same
accepted_same (Ok x) (Err g) q = absurd (coded_some g.reason (sym (ap (λ (t : Digits.Tally). t.refusal) q)))
accepted_same (Err f) (Ok y) q = absurd (coded_some f.reason (ap (λ (t : Digits.Tally). t.refusal) q))
accepted_same (Err f) (Err g) q = ap Err (refusal_same f g (ap (λ (t : Digits.Tally). t.refusal) q) (ap (λ (t : Digits.Tally). t.place) q))

-- tape
written : ℕ → ℕ → ℕ → Result Written Refusal
written n d k = Ok (record { words = n; doublings = d; additions = k })

pub written_same : (a b : Result Written Refusal) → taped a ≡ taped b → a ≡ b
unfolding written
written_same (Ok x) (Ok y) q =
    let n = ap (λ (t : Taping.Taped). t.words) q in
    let d = ap (λ (t : Taping.Taped). t.doublings) q in
    let k = ap (λ (t : Taping.Taped). t.additions) q in
    let same : written x.words x.doublings x.additions ≡ written y.words y.doublings y.additions = cc in
    same
written_same (Ok x) (Err g) q = absurd (coded_some g.reason (sym (ap (λ (t : Taping.Taped). t.refusal) q)))
written_same (Err f) (Ok y) q = absurd (coded_some f.reason (ap (λ (t : Taping.Taped). t.refusal) q))
written_same (Err f) (Err g) q = ap Err (refusal_same f g (ap (λ (t : Taping.Taped). t.refusal) q) (ap (λ (t : Taping.Taped). t.place) q))

-- joint
planned : ℕ → ℕ → ℕ → ℕ → ℕ → Result Planned Refusal
planned c t n d k = Ok (record { columns = c; top = t; words = n; doublings = d; additions = k })

pub planned_same : (a b : Result Planned Refusal) → joined a ≡ joined b → a ≡ b
unfolding planned
planned_same (Ok x) (Ok y) q =
    let c = ap (λ (j : Joining.Joined). j.columns) q in
    let t = ap (λ (j : Joining.Joined). j.top) q in
    let n = ap (λ (j : Joining.Joined). j.words) q in
    let d = ap (λ (j : Joining.Joined). j.doublings) q in
    let k = ap (λ (j : Joining.Joined). j.additions) q in
    let same : planned x.columns x.top x.words x.doublings x.additions ≡ planned y.columns y.top y.words y.doublings y.additions = cc in
    same
planned_same (Ok x) (Err g) q = absurd (coded_some g.reason (sym (ap (λ (j : Joining.Joined). j.refusal) q)))
planned_same (Err f) (Ok y) q = absurd (coded_some f.reason (ap (λ (j : Joining.Joined). j.refusal) q))
planned_same (Err f) (Err g) q = ap Err (refusal_same f g (ap (λ (j : Joining.Joined). j.refusal) q) (ap (λ (j : Joining.Joined). j.place) q))

-- search
pub weight_same : (a b : Result ℕ Reason) → searched a ≡ searched b → a ≡ b
weight_same (Ok x) (Ok y) q = ap Ok (ap (λ (s : Searching.Searched). s.weight) q)
weight_same (Ok x) (Err g) q = absurd (coded_some g (sym (ap (λ (s : Searching.Searched). s.refusal) q)))
weight_same (Err f) (Ok y) q = absurd (coded_some f (ap (λ (s : Searching.Searched). s.refusal) q))
weight_same (Err f) (Err g) q = ap Err (coded_same f g (ap (λ (s : Searching.Searched). s.refusal) q))

-- choose
choice : ℕ → ℕ → Result Choice Reason
choice w t = Ok (record { width = w; total = t })

pub choice_same : (a b : Result Choice Reason) → chosen a ≡ chosen b → a ≡ b
unfolding choice
choice_same (Ok x) (Ok y) q =
    let w = ap (λ (c : Choosing.Choice). c.width) q in
    let t = ap (λ (c : Choosing.Choice). c.total) q in
    let same : choice x.width x.total ≡ choice y.width y.total = cc in
    same
choice_same (Ok x) (Err g) q = absurd (coded_some g (sym (ap (λ (c : Choosing.Choice). c.refusal) q)))
choice_same (Err f) (Ok y) q = absurd (coded_some f (ap (λ (c : Choosing.Choice). c.refusal) q))
choice_same (Err f) (Err g) q = ap Err (coded_same f g (ap (λ (c : Choosing.Choice). c.refusal) q))

-- the lighter
part : Which → ℕ → Result Part Reason
part i n = Ok (record { which = i; places = n })

which_same : (i j : Which) → numbered i ≡ numbered j → i ≡ j
which_same i j e = grind arith

pub part_same : (a b : Result Part Reason) → picked a ≡ picked b → a ≡ b
unfolding part
part_same (Ok x) (Ok y) q =
    let i = which_same x.which y.which (ap (λ (p : Lighter.Picked). p.which) q) in
    let n = ap (λ (p : Lighter.Picked). p.places) q in
    let same : part x.which x.places ≡ part y.which y.places = cc in
    same
part_same (Ok x) (Err g) q = absurd (coded_some g (sym (ap (λ (p : Lighter.Picked). p.refusal) q)))
part_same (Err f) (Ok y) q = absurd (coded_some f (ap (λ (p : Lighter.Picked). p.refusal) q))
part_same (Err f) (Err g) q = ap Err (coded_same f g (ap (λ (p : Lighter.Picked). p.refusal) q))

-- a frame that is written
pub length_same : (a b : Result ℕ Reason) → wrote a ≡ wrote b → a ≡ b
length_same (Ok x) (Ok y) q = ap Ok (ap (λ (f : Frames.Framed). f.length) q)
length_same (Ok x) (Err g) q = absurd (coded_some g (sym (ap (λ (f : Frames.Framed). f.refusal) q)))
length_same (Err f) (Ok y) q = absurd (coded_some f (ap (λ (f : Frames.Framed). f.refusal) q))
length_same (Err f) (Err g) q = ap Err (coded_same f g (ap (λ (f : Frames.Framed). f.refusal) q))

-- a frame that is read: the number that is stated is not 0
string : ℕ → ℕ → ℕ → Result Reading Reason
string k t n = Ok (String k t n)

pub reading_same : (a b : Result Reading Reason) → Stating a → Stating b → said a ≡ said b → a ≡ b
unfolding string
reading_same (Ok (Stated x)) (Ok (Stated y)) s t q = ap (λ n. Ok (Stated n)) (ap (λ (p : Frames.Parsed). p.stated) q)
reading_same (Ok (Stated x)) (Ok (String k t n)) s _ q = absurd (s (ap (λ (p : Frames.Parsed). p.stated) q))
reading_same (Ok (String k t n)) (Ok (Stated y)) _ s q = absurd (s (sym (ap (λ (p : Frames.Parsed). p.stated) q)))
reading_same (Ok (String k t n)) (Ok (String l u m)) _ _ q =
    let e = ap (λ (p : Frames.Parsed). p.weight) q in
    let f = ap (λ (p : Frames.Parsed). p.top) q in
    let g = ap (λ (p : Frames.Parsed). p.places) q in
    let same : string k t n ≡ string l u m = cc in
    same
reading_same (Ok (Stated x)) (Err g) _ _ q = absurd (coded_some g (sym (ap (λ (p : Frames.Parsed). p.refusal) q)))
reading_same (Ok (String k t n)) (Err g) _ _ q = absurd (coded_some g (sym (ap (λ (p : Frames.Parsed). p.refusal) q)))
reading_same (Err f) (Ok (Stated y)) _ _ q = absurd (coded_some f (ap (λ (p : Frames.Parsed). p.refusal) q))
reading_same (Err f) (Ok (String k t n)) _ _ q = absurd (coded_some f (ap (λ (p : Frames.Parsed). p.refusal) q))
reading_same (Err f) (Err g) _ _ q = ap Err (coded_same f g (ap (λ (p : Frames.Parsed). p.refusal) q))
