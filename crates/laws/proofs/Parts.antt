-- The part of a list from an index on, lent and given back. Assumes nothing.
use mathlib.Core.Path.{◌≡◌, sym, ap, ◌∙◌}
use mathlib.Core.List.{List, ◌++◌, append-nil}
use Prim.Native.Nat.{ℕ, ◌+◌, ◌-◌, ◌≤◌}
use native.Mathlib.Omega.{arith}
use lib.ListN.{length, take, drop, length-drop, drop_of_length-le}
use lib.Seq.{take_all, length-take-le, take-append-add, drop-append-add}

module _ {A : Type 0} (l : List A) (at : ℕ) where
  -- what is lent
  pub part_lent : take (length l - at) (drop at l) ≡ drop at l
  part_lent = take_all (length l - at) (drop at l) (omega (arith, length-drop at l))

  -- what is given back stands behind what was not lent
  pub part_back : (more : List A) → take at l ++ (more ++ drop (length l - at) (drop at l)) ≡ take at l ++ more
  part_back more =
      ap (λ r. take at l ++ (more ++ r)) (drop_of_length-le (drop at l) {i = length l - at} (omega (arith, length-drop at l))) ∙ ap (λ r. take at l ++ r) (append-nil more)

  -- the first elements of it, and those past them
  module _ (within : at ≤ length l) (more : List A) (n : ℕ) where
    pub part_front : take (at + n) (take at l ++ more) ≡ take at l ++ take n more
    part_front = ap (λ k. take (k + n) (take at l ++ more)) (sym (length-take-le at l within)) ∙ take-append-add (take at l) more n

    pub part_past : drop (at + n) (take at l ++ more) ≡ drop n more
    part_past = ap (λ k. drop (k + n) (take at l ++ more)) (sym (length-take-le at l within)) ∙ drop-append-add (take at l) more n
