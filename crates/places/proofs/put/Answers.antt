-- The word that marks the place gains a mark.
use Rattle.std.proofs.Common.{◌≡◌, ◌≢◌, ◌+◌, ◌*◌, ◌/◌, ◌%◌, ◌^◌, ◌<◌, ◌≤◌, ℤ, pos, ap, ◌∙◌, List, ℕ, length, get_or, set, arith}
use lib.Dec.{lit<}
use lib.Pow.{shl_exact}
use mir.Facts.{to_z-of_z}
use Rattle.meaning.specs.Digits.{most_places}
use Rattle.meaning.specs.Recoding.{marks_of}
use Rattle.forms.proofs.Strings.{nonzero_one, nonzero_none}
use Rattle.places.proofs.Marking.{marks_length, marks_lt, word_put, marks_put}
use Rattle.places.proofs.put.Goals as goal

-- there are nine words
words : (ds : List ℤ) (ms : List ℕ) → ms ≡ marks_of ds → length ms ≡ 9
words ds ms e = ap length e ∙ marks_length ds

-- the word that is written is the new string's
new : (ds : List ℤ) (ms : List ℕ) (p : ℕ) (d : ℤ) → ms ≡ marks_of ds → p < length ds → length ds ≤ most_places → get_or ds p (pos 0) ≡ pos 0 → d ≢ pos 0
    → get_or ms (p / 64) 0 + 1 * 2 ^ (p % 64) % 2 ^ 64 ≡ get_or (marks_of (set ds p d)) (p / 64) 0
new ds ms p d e h l z n =
    let one = shl_exact {a = 1} 1 (p % 64) 64 (lit< tt) (omega arith) in
    let old = ap (λ t. t * 2 ^ (p % 64)) (nonzero_none z) in
    let gain = ap (λ t. t * 2 ^ (p % 64)) (nonzero_one d n) in
    rw e (omega (arith, one, old, gain, word_put ds p d (omega arith) (omega arith)))

pub bounds-marks-q : goal.bounds-marks-q
bounds-marks-q c = omega (arith, words c.args.digits.now c.args.marks.now c.requires.marks_value)

pub overflow_add-marks : goal.overflow_add-marks
overflow_add-marks c =
    let a = c.args in
    let r = c.requires in
    rw (new a.digits.now a.marks.now a.place a.digit r.marks_value r.place_in_bounds r.digits_len_bound r.pos_value r.digit_nonzero)
    (record { fits = marks_lt (set a.digits.now a.place a.digit) (a.place / 64) (omega arith) })

pub bounds-marks-q-2 : goal.bounds-marks-q-2
bounds-marks-q-2 c = omega (arith, words c.args.digits.now c.args.marks.now c.requires.marks_value)

pub returns-clause-marks_after : goal.returns-clause-marks_after
returns-clause-marks_after c =
    let a = c.args in
    let r = c.requires in
    let e = new a.digits.now a.marks.now a.place a.digit r.marks_value r.place_in_bounds r.digits_len_bound r.pos_value r.digit_nonzero in
    rw (to_z-of_z c.ranges.digit, r.marks_value) (marks_put a.digits.now a.place a.digit (omega arith) (omega arith) _ (rw r.marks_value at e))
