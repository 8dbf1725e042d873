-- A damaged file as its lines: what is kept of lines one behind the other and what is reported of them, and line numbers that are moved. Assumes nothing.
use mathlib.Core.Path.{◌≡◌, refl, sym, ap}
use mathlib.Core.Bool.{Bool, true, false, cond}
use mathlib.Core.List.{List, [], ◌∷◌, ◌++◌, append_assoc, append-nil}
use Prim.Native.Nat.{ℕ, suc, ◌+◌}
use native.Mathlib.Nat.{zero-add}
use native.Mathlib.Omega.{arith}
use lib.Dec.{eqb}
use lib.ListN.{length}
use Rattle.meaning.specs.Lines.{line_feed}
use Rattle.meaning.specs.Hexadecimal.{has_small}
use Rattle.meaning.specs.Salvage.{verdict, kept_line, kept_lines, Remark, dropped, case_only, remarks, reported, moved, decimal, said, told}

-- ---- one behind the other
pub kept_append : (ls ms : List (List ℕ)) → kept_lines (ls ++ ms) ≡ kept_lines ls ++ kept_lines ms
unfolding kept_lines
kept_append [] ms = refl
kept_append (l ∷ ls) ms = rw (kept_append ls ms) (sym (append_assoc (kept_line l) (kept_lines ls) (kept_lines ms)))

pub reported_append : (k : ℕ) (ls ms : List (List ℕ)) → reported k (ls ++ ms) ≡ reported k ls ++ reported (length ls + k) ms
unfolding reported
reported_append k [] ms = ap (λ i. reported i ms) (sym (zero-add k))
reported_append k (l ∷ ls) ms =
    let n : length ls + suc k ≡ suc (length ls) + k = omega arith in
    rw (reported_append (suc k) ls ms, n) (sym (append_assoc (remarks k l) (reported (suc k) ls) (reported (suc (length ls) + k) ms)))

pub told_append : (xs ys : List (ℕ × Remark)) → told (xs ++ ys) ≡ told xs ++ told ys
unfolding told
told_append [] ys = refl
told_append (x ∷ xs) ys = rw (told_append xs ys) (sym (append_assoc (decimal x.0 ++ (said x.1 ++ (line_feed ∷ []))) (told xs) (told ys)))

-- ---- one line
pub kept_one : (l : List ℕ) → kept_lines (l ∷ []) ≡ kept_line l
unfolding kept_lines
kept_one l = append-nil (kept_line l)

pub reported_one : (k : ℕ) (l : List ℕ) → reported k (l ∷ []) ≡ remarks k l
unfolding reported
reported_one k l = append-nil (remarks k l)

pub told_one : (k : ℕ) (x : Remark) → told ((k, x) ∷ []) ≡ decimal k ++ (said x ++ (line_feed ∷ []))
unfolding told
told_one k x = append-nil (decimal k ++ (said x ++ (line_feed ∷ [])))

-- ---- line numbers that are moved
moved_append : (n : ℕ) (xs ys : List (ℕ × Remark)) → moved n (xs ++ ys) ≡ moved n xs ++ moved n ys
unfolding moved
moved_append n [] ys = refl
moved_append n (x ∷ xs) ys = ap (λ l. (n + x.0, x.1) ∷ l) (moved_append n xs ys)

remarks_moved : (n k : ℕ) (l : List ℕ) → remarks (n + k) l ≡ moved n (remarks k l)
unfolding remarks moved
remarks_moved n k l = go (eqb (verdict l) 0) (has_small l)
  where
    go : (b c : Bool) → cond b (cond c ((n + k, case_only) ∷ []) []) ((n + k, dropped (verdict l)) ∷ [])
        ≡ moved n (cond b (cond c ((k, case_only) ∷ []) []) ((k, dropped (verdict l)) ∷ []))
    go true true = refl
    go true false = refl
    go false c = refl

pub reported_moved : (n k : ℕ) (ls : List (List ℕ)) → reported (n + k) ls ≡ moved n (reported k ls)
unfolding reported moved
reported_moved n k [] = refl
reported_moved n k (l ∷ ls) =
    let next : suc (n + k) ≡ n + suc k = omega arith in
    rw (remarks_moved n k l, next, reported_moved n (suc k) ls) (sym (moved_append n (remarks k l) (reported (suc k) ls)))
