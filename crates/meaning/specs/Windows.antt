-- Windows of w + 1 bits: what one is worth, its odd part u and its power of two k, and the table of all of them.
-- Assumes nothing.
use Rattle.std.specs.Prelude.{cond, ℕ, suc, ◌+◌, ◌-◌, ◌*◌, ◌/◌, ◌%◌, ◌^◌, eqb, ℤ, pos, negsuc, neg_ℤ, nat_abs, ◌-ℤ◌}
use Rattle.std.specs.Int.Count.{count_trailing_zeros}

-- s, the w + 1 bits d_i .. d_(i-w) of N read as a number; bits under place 0 are zero
abbrev pub window_bits : ℕ → ℕ → ℕ → ℕ
window_bits w N i = N * 2 ^ w / 2 ^ i % 2 ^ (w + 1)

-- the leading bit of the window s, and the one after it
abbrev pub leading : ℕ → ℕ → ℕ
leading w s = s / 2 ^ w

abbrev pub second : ℕ → ℕ → ℕ
second w s = s / 2 ^ (w - 1) % 2

-- v, what the window s is worth: half of s rounded up, less 2 ^ w where its leading bit is 1
unfoldable pub window_worth : ℕ → ℕ → ℤ
window_worth w s = pos ((s + 1) / 2) -ℤ pos (2 ^ w * leading w s)

-- k of v = u · 2 ^ k with u odd: the count of trailing zero bits of the size of v, which is below 2 ^ w
abbrev pub twos : ℕ → ℤ → ℕ
twos w v = count_trailing_zeros w (nat_abs v)

-- v / p toward 0
unfoldable pub shrink : ℕ → ℤ → ℤ
shrink p (pos a) = pos (a / p)
shrink p (negsuc a) = neg_ℤ (pos (suc a / p))

-- and u: v without its factors 2
abbrev pub odd_part : ℕ → ℤ → ℤ
odd_part w v = shrink (2 ^ twos w v) v

-- ---- the table: all windows of all widths, 1,016 entries
abbrev pub table_length : ℕ
table_length = 1016

-- where the entries of width w start
abbrev pub table_start : ℕ → ℕ
table_start w = 2 ^ (w + 1) - 8

-- the entry for s gives u and k; both are 0 where the two leading bits are equal
unfoldable pub entry_unit : ℕ → ℕ → ℤ
entry_unit w s = cond (eqb (leading w s) (second w s)) (pos 0) (odd_part w (window_worth w s))

unfoldable pub entry_twos : ℕ → ℕ → ℕ
entry_twos w s = cond (eqb (leading w s) (second w s)) 0 (twos w (window_worth w s))
