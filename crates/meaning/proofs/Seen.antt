-- What a reader can see of the definitions by computing them: examples, each by `refl`, at which a slip in a definition would show. Nothing else is proved here.
-- Assumes nothing.
use mathlib.Core.Path.{◌≡◌, refl}
use mathlib.Core.Bool.{true, false}
use mathlib.Core.List.{List, [], ◌∷◌}
use lib.Count.{count_trailing_zeros}
use lib.Dec.{lit≤, lit<}
use lib.IntN.{ℤ, pos, negsuc}
use Rattle.meaning.specs.Scalars.{highest_first, lowest_first, number}
use Rattle.meaning.specs.Digits.{in_set, largest, nonzero, worth, weight, top, listed}
use Rattle.meaning.specs.Sets.{Pair}
use Rattle.meaning.specs.Mof.{mof}
use Rattle.meaning.specs.Fractional.{DigitAt, small, large}
use Rattle.meaning.specs.Windows.{window_worth, shrink, entry_unit, entry_twos}
use Rattle.meaning.specs.Wmof.{wmof_under, wmof}
use Rattle.meaning.specs.Closest.{larger, smaller, Favours}
use Rattle.meaning.specs.Recoding.{marked, marks_of}
use Rattle.meaning.specs.Words.{step_of}
use Rattle.meaning.specs.Walks.{taken, walked, wholes, tape_value, doublings, additions}
use Rattle.meaning.specs.Multiples.{making_of, made, made_from, cost_doublings, cost_additions, cost_of}
use Rattle.meaning.specs.Taping.{moves, down, tape_of}
use Rattle.meaning.specs.Powering.{power, powers_of}
use Rattle.meaning.specs.SecondChip.{second_value, translation, second_multiples_of}
use Rattle.meaning.specs.Joint.{column, columns_of}
use Rattle.meaning.specs.JointRunning.{pair_at, pair_value, joint_entry, joint_entries_of}
use Rattle.meaning.specs.Choosing.{Allowed, total_of}
use Rattle.meaning.specs.Lighter.{lighter_of}
use Rattle.meaning.specs.Reading.{digit, done, read_at}
use Rattle.meaning.specs.Lines.{lines_of}
use Rattle.meaning.specs.Hexadecimal.{nibble, all_hex, in_pairs, bytes_of, written, raised, in_capitals, has_small}
use Rattle.meaning.specs.Frames.{byte_of, digit_bytes, digit_of, entries_from, entry_bytes, entries_of, rising, digit_at, version1, version2, line_of, is_sparse, places_in, digits_in, digits_of, stated, lacking, unreadable, in_order, unfit}
use Rattle.meaning.specs.Requests.{malformed}
use Rattle.meaning.specs.Salvage.{verdict, kept_line, kept_lines, salvaged, dropped, case_only, remarks, reported, report, moved, numeral, told}

-- 13 as 1 0 -1 0 1, on the nine places of a byte
thirteen : List ℤ
thirteen = pos 1 ∷ pos 0 ∷ negsuc 0 ∷ pos 0 ∷ pos 1 ∷ pos 0 ∷ pos 0 ∷ pos 0 ∷ pos 0 ∷ []

-- one frame in either order
highest_first_is : number highest_first (1 ∷ 93 ∷ []) ≡ 349
unfolding number
highest_first_is = refl

lowest_first_is : number lowest_first (1 ∷ 93 ∷ []) ≡ 23809
unfolding number
lowest_first_is = refl

-- bytes of nought at the high end are worth nothing, so that a scalar and a group's order of different lengths compare as numbers
high_noughts : (number highest_first (0 ∷ 0 ∷ 5 ∷ []) ≡ 5) × (number lowest_first (5 ∷ 0 ∷ []) ≡ 5)
unfolding number
high_noughts = (refl, refl)

-- 4 is no digit of width 4, and -7 is
no_half : in_set (largest 4) (pos 4) ≡ false
unfolding in_set
no_half = refl

has_seven : in_set (largest 4) (negsuc 6) ≡ true
unfolding in_set
has_seven = refl

-- six multiples: width 4 goes with the largest digit 11, and 13 is no digit of the set
six : Pair 4 11
six = record { between = record { wide = lit≤ tt; odd = refl; least = lit≤ tt; most = lit≤ tt }; most = lit≤ tt; above = λ _. lit< tt }

no_thirteen : in_set 11 (pos 13) ≡ false
unfolding in_set
no_thirteen = refl

-- at width 4 with 11 the digit at 11 is 11 itself, and that at 13 is -3
takes_eleven : DigitAt 4 11 (pos 11) (pos 11)
takes_eleven = small (record { quotient = pos 0; is = refl; between = lit< tt }) (lit≤ tt)

takes_three : DigitAt 4 11 (pos 13) (negsuc 2)
takes_three = large (pos 13) (record { quotient = pos 0; is = refl; between = lit< tt }) (lit< tt) (record { quotient = pos 1; is = refl; between = lit< tt })

-- a string's worth, weight and top; a negative digit counts as one
its_worth : worth thirteen ≡ pos 13
unfolding thirteen worth
its_worth = refl

its_weight : weight thirteen ≡ 3
unfolding thirteen weight nonzero
its_weight = refl

its_top : top thirteen ≡ 5
unfolding thirteen top nonzero
its_top = refl

-- MOF of 13: 1 0 -1 1 -1
its_mof : mof 13 8 ≡ negsuc 0 ∷ pos 1 ∷ negsuc 0 ∷ pos 0 ∷ pos 1 ∷ pos 0 ∷ pos 0 ∷ pos 0 ∷ pos 0 ∷ []
unfolding mof listed
its_mof = refl

-- wMOF of 13 at width 2: 1 0 0 -1 -1, the last by a short window
its_wmof : wmof 2 13 8 ≡ negsuc 0 ∷ negsuc 0 ∷ pos 0 ∷ pos 0 ∷ pos 1 ∷ pos 0 ∷ pos 0 ∷ pos 0 ∷ pos 0 ∷ []
unfolding wmof wmof_under window_worth shrink count_trailing_zeros
its_wmof = refl

-- a window may be worth 2 ^ (w - 1): it is 1, further up
half_window : (entry_unit 3 7 ≡ pos 1) × (entry_twos 3 7 ≡ 2)
unfolding entry_unit entry_twos window_worth shrink count_trailing_zeros
half_window = (refl, refl)

-- the two tie rules, at -3 between -2 and -4
takes_larger : Favours larger (negsuc 3) (negsuc 1)
unfolding Favours
takes_larger = lit≤ tt

takes_smaller : Favours smaller (negsuc 1) (negsuc 3)
unfolding Favours
takes_smaller = lit≤ tt

-- marks of places 0, 2 and 4
its_marks : marks_of thirteen ≡ 21 ∷ 0 ∷ 0 ∷ 0 ∷ 0 ∷ 0 ∷ 0 ∷ 0 ∷ 0 ∷ []
unfolding thirteen marks_of marked listed nonzero
its_marks = refl

-- load 1, double, double, subtract 1, double, double, add 1; its value is the worth
its_tape : tape_of thirteen ≡ 0x1000 ∷ 0 ∷ 0 ∷ 0x4000 ∷ 0 ∷ 0 ∷ 0x3000 ∷ []
unfolding thirteen tape_of down moves
its_tape = refl

its_value : tape_value (tape_of thirteen) ≡ pos 13
unfolding thirteen tape_of down moves walked taken step_of
its_value = refl

-- four words double and two add or subtract; the load is neither
its_doublings : doublings (tape_of thirteen) ≡ 4
unfolding thirteen tape_of down moves doublings
its_doublings = refl

its_additions : additions (tape_of thirteen) ≡ 2
unfolding thirteen tape_of down moves additions
its_additions = refl

-- four multiples: 1 is doubled, and the double added three times; one multiple costs nothing
four_made : made_from wholes (pos 1) 4 ≡ pos 1 ∷ pos 3 ∷ pos 5 ∷ pos 7 ∷ []
unfolding made making_of
four_made = refl

four_cost : cost_of 4 ≡ record { doublings = 1; additions = 3 }
unfolding making_of cost_doublings cost_additions
four_cost = refl

-- modulo 7, 5 is the inverse of 3: 3 to the 2 is 2, 3 to the -2 is 5 to the 2, and the odd powers of 3 are 3, 6, 5
two_up : power 7 3 5 (pos 2) ≡ 2
unfolding power
two_up = refl

two_down : power 7 3 5 (negsuc 1) ≡ 4
unfolding power
two_down = refl

none_up : power 1 0 0 (pos 0) ≡ 0
unfolding power
none_up = refl

three_powers : powers_of 3 7 3 ≡ 3 ∷ 6 ∷ 5 ∷ []
unfolding powers_of listed
three_powers = refl

-- on the chip without subtraction and two entries, -1 is loaded by entry 2, and 3 is taken away by entry 3; modulo 10 the entries of the base 9 are 9, 7, 1, 3
turned_words : translation 2 (0x2000 ∷ 0 ∷ 0x4001 ∷ 0x3001 ∷ []) ≡ 0x1002 ∷ 0 ∷ 0x3003 ∷ 0x3001 ∷ []
unfolding step_of
turned_words = refl

turned_value : second_value 2 (0x1002 ∷ 0 ∷ 0x3003 ∷ []) ≡ negsuc 4
unfolding walked taken step_of
turned_value = refl

both_signs : second_multiples_of 2 10 9 ≡ 9 ∷ 7 ∷ 1 ∷ 3 ∷ []
unfolding second_multiples_of listed
both_signs = refl

one_cost : cost_of 1 ≡ record { doublings = 0; additions = 0 }
unfolding making_of cost_doublings cost_additions
one_cost = refl

-- four entries have room for width 4, at which 13 is 1 0 0 0 -3: four doublings, an addition, and a doubling and three additions for the multiples
four_fit : Allowed 4 4
four_fit = record { least = lit≤ tt; most = lit≤ tt; fit = lit≤ tt }

its_total : total_of 4 (negsuc 2 ∷ pos 0 ∷ pos 0 ∷ pos 0 ∷ pos 1 ∷ []) ≡ 9
unfolding total_of tape_of down moves doublings additions making_of cost_doublings cost_additions
its_total = refl

-- of 1 0 -1 0 1 and 1 0 0 0 -3 the second is the lighter, and of two of one weight the first
lighter_second : lighter_of thirteen (negsuc 2 ∷ pos 0 ∷ pos 0 ∷ pos 0 ∷ pos 1 ∷ []) ≡ 1
unfolding thirteen lighter_of weight nonzero
lighter_second = refl

lighter_first : lighter_of (pos 1 ∷ []) (pos 0 ∷ pos 1 ∷ []) ≡ 0
unfolding lighter_of weight nonzero
lighter_first = refl

-- a reader gives a digit a call, then done
read_on : read_at (pos 1 ∷ negsuc 0 ∷ []) 1 ≡ digit (negsuc 0)
unfolding read_at
read_on = refl

read_out : read_at (pos 1 ∷ negsuc 0 ∷ []) 2 ≡ done
unfolding read_at
read_out = refl

-- two lines, the second without a line feed; `0202010D` is well formed, and what follows is the answer to it without its line feed
its_lines : lines_of (48 ∷ 10 ∷ 49 ∷ []) ≡ (48 ∷ []) ∷ (49 ∷ []) ∷ []
unfolding lines_of
its_lines = refl

well_formed : malformed (48 ∷ 50 ∷ 48 ∷ 50 ∷ 48 ∷ 49 ∷ 48 ∷ 68 ∷ []) ≡ false
unfolding malformed all_hex nibble bytes_of
well_formed = refl

its_answer : line_of version1 thirteen
    ≡ 48 ∷ 48 ∷ 48 ∷ 48 ∷ 48 ∷ 51 ∷ 48 ∷ 48 ∷ 48 ∷ 53 ∷ 48 ∷ 49 ∷ 48 ∷ 48 ∷ 70 ∷ 70 ∷ 48 ∷ 48 ∷ 48 ∷ 49 ∷ 48 ∷ 48 ∷ 48 ∷ 48 ∷ 48 ∷ 48 ∷ 48 ∷ 48 ∷ []
unfolding thirteen written digit_bytes byte_of weight top nonzero
its_answer = refl

-- the same string in version 2: A2 0003 0005 0009, then 0000 01, 0002 FF, 0004 01
its_sparse : line_of version2 thirteen
    ≡ 65 ∷ 50 ∷ 48 ∷ 48 ∷ 48 ∷ 51 ∷ 48 ∷ 48 ∷ 48 ∷ 53 ∷ 48 ∷ 48 ∷ 48 ∷ 57 ∷ 48 ∷ 48 ∷ 48 ∷ 48 ∷ 48 ∷ 49 ∷ 48 ∷ 48 ∷ 48 ∷ 50 ∷ 70 ∷ 70 ∷ 48 ∷ 48 ∷ 48 ∷ 52 ∷ 48 ∷ 49 ∷ []
unfolding thirteen written weight top nonzero entries_from entry_bytes byte_of
its_sparse = refl

-- it is read back; with a place twice, places that fall, a place at the count or a zero digit, or with another weight or top a line is not fit
its_string : digits_in (0xA2 ∷ 0 ∷ 3 ∷ 0 ∷ 5 ∷ 0 ∷ 9 ∷ 0 ∷ 0 ∷ 1 ∷ 0 ∷ 2 ∷ 255 ∷ 0 ∷ 4 ∷ 1 ∷ []) ≡ thirteen
unfolding thirteen digits_in is_sparse entries_of digit_at digit_of listed
its_string = refl

fits : unfit (0xA2 ∷ 0 ∷ 1 ∷ 0 ∷ 2 ∷ 0 ∷ 3 ∷ 0 ∷ 1 ∷ 255 ∷ []) ≡ false
unfolding unfit in_order rising digits_in is_sparse entries_of digit_at digit_of listed nonzero weight top
fits = refl

twice : unfit (0xA2 ∷ 0 ∷ 1 ∷ 0 ∷ 2 ∷ 0 ∷ 3 ∷ 0 ∷ 1 ∷ 255 ∷ 0 ∷ 1 ∷ 255 ∷ []) ≡ true
unfolding unfit in_order rising digits_in is_sparse entries_of digit_at digit_of listed nonzero weight top
twice = refl

falling : unfit (0xA2 ∷ 0 ∷ 2 ∷ 0 ∷ 2 ∷ 0 ∷ 2 ∷ 0 ∷ 1 ∷ 1 ∷ 0 ∷ 0 ∷ 1 ∷ []) ≡ true
unfolding unfit in_order rising digits_in is_sparse entries_of digit_at digit_of listed nonzero weight top
falling = refl

at_count : unfit (0xA2 ∷ 0 ∷ 0 ∷ 0 ∷ 0 ∷ 0 ∷ 3 ∷ 0 ∷ 3 ∷ 255 ∷ []) ≡ true
unfolding unfit in_order rising digits_in is_sparse entries_of digit_at digit_of listed nonzero weight top
at_count = refl

zero_digit : unfit (0xA2 ∷ 0 ∷ 0 ∷ 0 ∷ 0 ∷ 0 ∷ 3 ∷ 0 ∷ 1 ∷ 0 ∷ []) ≡ true
unfolding unfit in_order rising digits_in is_sparse entries_of digit_at digit_of listed nonzero weight top
zero_digit = refl

other_weight : unfit (0xA2 ∷ 0 ∷ 2 ∷ 0 ∷ 2 ∷ 0 ∷ 3 ∷ 0 ∷ 1 ∷ 255 ∷ []) ≡ true
unfolding unfit in_order rising digits_in is_sparse entries_of digit_at digit_of listed nonzero weight top
other_weight = refl

other_top : unfit (0xA2 ∷ 0 ∷ 1 ∷ 0 ∷ 3 ∷ 0 ∷ 3 ∷ 0 ∷ 1 ∷ 255 ∷ []) ≡ true
unfolding unfit in_order rising digits_in is_sparse entries_of digit_at digit_of listed nonzero weight top
other_top = refl

-- `10` is a refused line that gives 16; `06` and `00` are malformed, and so is an entry that is cut short
its_number : stated (49 ∷ 48 ∷ []) ≡ 16
unfolding stated in_pairs all_hex bytes_of nibble
its_number = refl

struck_number : unreadable (48 ∷ 54 ∷ []) ≡ true
unfolding unreadable stated in_pairs all_hex bytes_of nibble is_sparse lacking
struck_number = refl

no_number : unreadable (48 ∷ 48 ∷ []) ≡ true
unfolding unreadable stated in_pairs all_hex bytes_of nibble is_sparse lacking
no_number = refl

cut_short : lacking (0xA2 ∷ 0 ∷ 1 ∷ 0 ∷ 2 ∷ 0 ∷ 3 ∷ 0 ∷ 1 ∷ []) ≡ true
unfolding lacking is_sparse
cut_short = refl

-- `0d` in capitals is `0D`
its_capitals : in_capitals (48 ∷ 100 ∷ []) ≡ 48 ∷ 68 ∷ []
unfolding in_capitals raised
its_capitals = refl

-- a file of the lines `0a`, `zz` and one cut off after `0`: the first is kept in capitals, and the others are dropped
its_salvage : salvaged (48 ∷ 97 ∷ 10 ∷ 122 ∷ 122 ∷ 10 ∷ 48 ∷ []) ≡ 48 ∷ 65 ∷ 10 ∷ []
unfolding lines_of kept_lines kept_line verdict unreadable stated in_pairs all_hex bytes_of nibble is_sparse lacking places_in unfit in_order digits_in digits_of weight top in_capitals raised
its_salvage = refl

its_report : report (48 ∷ 97 ∷ 10 ∷ 122 ∷ 122 ∷ 10 ∷ 48 ∷ []) ≡ (1, case_only) ∷ (2, dropped 16) ∷ (3, dropped 16) ∷ []
unfolding lines_of reported remarks verdict unreadable stated in_pairs all_hex bytes_of nibble is_sparse lacking places_in unfit in_order digits_in digits_of weight top has_small
its_report = refl

-- the report's lines `1 case only` and `120 dropped 7`
its_text : told ((1, case_only) ∷ (120, dropped 7) ∷ []) ≡ 49 ∷ 32 ∷ 99 ∷ 97 ∷ 115 ∷ 101 ∷ 32 ∷ 111 ∷ 110 ∷ 108 ∷ 121 ∷ 10 ∷ 49 ∷ 50 ∷ 48 ∷ 32 ∷ 100 ∷ 114 ∷ 111 ∷ 112 ∷ 112 ∷ 101 ∷ 100 ∷ 32 ∷ 55 ∷ 10 ∷ []
unfolding told numeral
its_text = refl

-- two lines more before them
its_moved : moved 2 ((1, case_only) ∷ (120, dropped 7) ∷ []) ≡ (3, case_only) ∷ (122, dropped 7) ∷ []
unfolding moved
its_moved = refl

-- 3 and 2 together: the columns (1, 0) and (1, 1) are the digits 1 and 5, of the entries 0 and 2; their tape is load g + h, double, add g
its_columns : columns_of (pos 1 ∷ pos 1 ∷ []) (pos 0 ∷ pos 1 ∷ []) ≡ pos 1 ∷ pos 5 ∷ []
unfolding columns_of column
its_columns = refl

pair_tape : tape_of (pos 1 ∷ pos 5 ∷ []) ≡ 0x1002 ∷ 0 ∷ 0x3000 ∷ []
unfolding tape_of down moves
pair_tape = refl

-- it takes g three times and h twice
pair_leaves : pair_value (0x1002 ∷ 0 ∷ 0x3000 ∷ []) ≡ record { first = pos 3; second = pos 2 }
unfolding walked taken step_of pair_at
pair_leaves = refl

-- subtracting entry 3 takes g - h off
difference_off : pair_value (0x1000 ∷ 0x4003 ∷ []) ≡ record { first = pos 0; second = pos 1 }
unfolding walked taken step_of pair_at
difference_off = refl

-- the shorter of two rows has zeros past its end
unequal_rows : columns_of (negsuc 0 ∷ []) (pos 1 ∷ negsuc 0 ∷ []) ≡ negsuc 6 ∷ negsuc 2 ∷ []
unfolding columns_of column
unequal_rows = refl

-- the entries of 3 and 5 modulo 7
its_entries : joint_entries_of 7 3 5 ≡ 3 ∷ 5 ∷ 1 ∷ 5 ∷ []
unfolding joint_entries_of joint_entry listed
its_entries = refl
