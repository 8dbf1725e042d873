-- What a window is found to be, looked up or worked out. Assumes nothing.
use Rattle.std.specs.Prelude.{◌≡◌, ℕ, ◌-◌, ◌^◌, ◌<◌, ℤ, nat_abs}
use Rattle.table.specs.declared.Window.{Window}

-- r holds u and k at width w: u is below 2 ^ (w - 1) in size, and k below w
pub record Parts (w : ℕ) (u : ℤ) (k : ℕ) (r : Window) : Type 0 where
  pub unit_is : r.unit ≡ u
  pub twos_is : r.twos ≡ k
  pub small : nat_abs u < 2 ^ (w - 1)
  pub few : k < w
