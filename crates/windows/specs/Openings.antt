-- Whether a window opens, and where its digit stands. Assumes nothing.
use Rattle.std.specs.Prelude.{◌≡◌, ◌≢◌, ℕ, ◌+◌, ◌-◌}
use Rattle.meaning.specs.Windows.{leading, second}
use Rattle.table.specs.declared.Window.{Window}
use Rattle.windows.specs.declared.opening.Place.{Place}

-- the two leading bits of window s are different
abbrev pub Opens : (w s : ℕ) → Type 0
Opens w s = leading w s ≢ second w s

-- the digit of a window over m places, its place, and the places left under the window
pub record Placed (w : ℕ) (x : Window) (m : ℕ) (r : Place) : Type 0 where
  pub spot_is : r.spot ≡ m + x.twos - w
  pub unit_is : r.unit ≡ x.unit
  pub left_is : r.left ≡ m - w
