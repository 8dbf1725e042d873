-- The rule of the window table, for all windows of all widths: which window an entry is of, and what it gives. Assumes nothing.
use Rattle.std.specs.Prelude.{◌≡◌, ℕ, ◌+◌, ◌-◌, ℤ, pos}
use Rattle.std.specs.Int.Count.{count_leading_zeros}
use Rattle.meaning.specs.Digits.{most_width}
use Rattle.meaning.specs.Windows.{table_start, entry_unit, entry_twos}
use Rattle.table.specs.declared.Window.{Window}

-- ---- the width and the window of entry e, which is window s of width w where e + 8 = 2 ^ (w + 1) + s
-- e + 8 has w + 2 bits, and that of the largest width most_width + 2
unfoldable pub width_of : ℕ → ℕ
unfolding count_leading_zeros
width_of e = most_width - count_leading_zeros (most_width + 2) (e + 8)

-- the window that is left
unfoldable pub window_of : ℕ → ℕ
unfolding width_of
window_of e = e - table_start (width_of e)

-- ---- what it gives
-- u
unfoldable pub unit_of : ℕ → ℤ
unfolding width_of window_of entry_unit
unit_of e = entry_unit (width_of e) (window_of e)

-- k
unfoldable pub twos_of : ℕ → ℤ
unfolding width_of window_of entry_twos
twos_of e = pos (entry_twos (width_of e) (window_of e))

-- the window that entry e is of
pub record Read (e : ℕ) (r : Window) : Type 0 where
  pub unit_is : r.unit ≡ unit_of e
  pub twos_is : pos r.twos ≡ twos_of e
