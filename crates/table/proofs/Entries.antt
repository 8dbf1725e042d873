-- The rule of the window table, shown for the whole table at once: one test, computed over all of its entries, and one law that gives the rule at each of them.
-- Assumes nothing.
use mathlib.Core.Path.{◌≡◌, ap, ◌∙◌}
use mathlib.Core.Bool.{Bool, ◌&&◌}
use mathlib.Core.List.{List}
use Prim.Native.Nat.{ℕ, ◌+◌, ◌-◌, ◌*◌, ◌^◌, ◌≤◌, ◌<◌}
use native.Mathlib.Nat.{pow-succ'}
use native.Mathlib.Omega.{arith}
use lib.Count.{count_leading_zeros, leading_unique}
use lib.Dec.{T}
use lib.IntN.{ℤ, pos}
use lib.ListN.{get_or}
use lib.Pow.{pow_mono}
use Rattle.std.specs.Ordering.{int_eq}
use Rattle.std.proofs.lemmas.Bool.Decides.{Decides-int_eq}
use denote.Floats.{is_true}
use Rattle.laws.proofs.Choices.{and_both}
use Rattle.laws.proofs.Tables.{passes, at}
use Rattle.meaning.specs.Digits.{most_width}
use Rattle.meaning.specs.Windows.{table_length, table_start, entry_unit, entry_twos}
use Rattle.width.specs.Widths.{Wide}
use Rattle.table.specs.declared.Window.{Window}
use Rattle.table.specs.Tables.{width_of, window_of, unit_of, twos_of, Read}

-- ---- the width and the window of an entry
-- where a width's entries lie
start_is : (w s : ℕ) → 2 ≤ w → table_start w + s + 8 ≡ 2 ^ (w + 1) + s
start_is w s h = let l : 2 ^ 3 ≤ 2 ^ (w + 1) = pow_mono {i = 3} {j = w + 1} (omega arith) in omega arith

module _ (w s : ℕ) (h : Wide w) (l : s < 2 ^ (w + 1)) where
  -- an entry's width is the one at whose entries it lies
  width_of_is : width_of (table_start w + s) ≡ w
  unfolding width_of
  width_of_is =
      let e = start_is w s h.0 in
      let d : 2 ^ (w + 2) ≡ 2 * 2 ^ (w + 1) = ap (λ t. 2 ^ t) (omega arith) ∙ pow-succ' 2 (w + 1) in
      let z : most_width - w ≡ count_leading_zeros (most_width + 2) (table_start w + s + 8) =
      leading_unique (most_width + 2) (table_start w + s + 8) (most_width - w) (w + 2) (omega arith) (omega arith) (omega arith) in
      omega arith

  -- and its window
  window_of_is : window_of (table_start w + s) ≡ s
  unfolding window_of
  window_of_is = ap (λ v. table_start w + s - table_start v) width_of_is ∙ omega arith

  -- it is an entry of the table
  pub within : table_start w + s < table_length
  within =
      let m : 2 ^ (w + 1) ≤ 2 ^ 9 = pow_mono {i = w + 1} {j = 9} (omega arith) in
      omega (arith, start_is w s h.0)

  -- so it gives u and k of window s of width w
  pub unit_of_is : unit_of (table_start w + s) ≡ entry_unit w s
  unfolding unit_of
  unit_of_is = ap (λ v. entry_unit v (window_of (table_start w + s))) width_of_is ∙ ap (entry_unit w) window_of_is

  pub twos_of_is : twos_of (table_start w + s) ≡ pos (entry_twos w s)
  unfolding twos_of
  twos_of_is = ap (λ v. pos (entry_twos v (window_of (table_start w + s)))) width_of_is ∙ ap (λ v. pos (entry_twos w v)) window_of_is

-- ---- the rule
-- x gives u and k of entry e
abbrev pub right : ℕ → Window → Bool
right e x = int_eq x.unit (unit_of e) && int_eq (pos x.twos) (twos_of e)

-- whatever is read off an entry: a list at whose entries the test passes gives f at every entry
pub whole : {A : Type 0} (value : A → ℤ) (f : ℕ → ℤ) (xs : List A) → T (passes (λ e x. int_eq (value x) (f e)) table_length 0 xs) → (a : A) (e : ℕ) → e < table_length → value (get_or xs e a) ≡ f e
whole value f xs t a e h = (Decides-int_eq (value (get_or xs e a)) (f e)).0 (is_true _ (at (λ e x. int_eq (value x) (f e)) table_length xs t a e h))

-- so a list at whose entries the test passes gives them at every entry
pub table : (xs : List Window) → T (passes right table_length 0 xs) → (a : Window) (e : ℕ) → e < table_length → Read e (get_or xs e a)
table xs t a e h =
    let x = get_or xs e a in
    let (u, k) = and_both (int_eq x.unit (unit_of e)) (int_eq (pos x.twos) (twos_of e)) (at right table_length xs t a e h) in
    record { unit_is = (Decides-int_eq x.unit (unit_of e)).0 (is_true _ u); twos_is = (Decides-int_eq (pos x.twos) (twos_of e)).0 (is_true _ k) }
