-- Two numbers compared byte by byte from the top: while what stands from a byte up is alike, the first byte under it that differs decides. Assumes nothing.
use mathlib.Core.Path.{◌≡◌, sym, ap, subst, ◌∙◌}
use mathlib.Core.Logic.{◌≢◌}
use mathlib.Core.Bool.{Bool, true, false, not}
use Prim.Native.Nat.{ℕ, ◌+◌, ◌*◌, ◌/◌, ◌%◌, ◌^◌, ◌≤◌, ◌<◌}
use native.Mathlib.Nat.{div-one}
use native.Mathlib.Omega.{arith}
use native.Mathlib.Decide.{dec_lt}
use lib.Dec.{T, ltb, ltb→lt, lt→ltb, nltb→le, not_T}
use lib.Pow.{shr-shr, shr_mono}
use Rattle.laws.proofs.Choices.{same_tests, true_false}

-- what is less from a place up is less
less_over : (N G k : ℕ) → N / 2 ^ k < G / 2 ^ k → N < G
less_over N G k h = go (dec_lt N G)
  where
    go : Dec (N < G) → N < G
    go (yes l) = l
    go (no n) = absurd (omega (arith, shr_mono {a = G} {b = N} k (omega arith)))

module _ (N G q x y : ℕ) (alike : N / 2 ^ (8 * (q + 1)) ≡ G / 2 ^ (8 * (q + 1))) (is_x : x ≡ N / 2 ^ (8 * q) % 256) (is_y : y ≡ G / 2 ^ (8 * q) % 256) where
  -- what stands over byte q
  over : (M : ℕ) → M / 2 ^ (8 * q) / 256 ≡ M / 2 ^ (8 * (q + 1))
  over M = shr-shr M (8 * q) 8 ∙ ap (λ k. M / 2 ^ k) (omega arith)

  -- byte q is alike too
  pub alike_more : x ≡ y → N / 2 ^ (8 * q) ≡ G / 2 ^ (8 * q)
  alike_more e = omega (arith, over N, over G, alike, is_x, is_y)

  -- or it differs
  pub decided : x ≢ y → ltb x y ≡ ltb N G
  decided n =
      same_tests (ltb x y) (ltb N G)
      (λ t. lt→ltb N G (less_over N G (8 * q) (omega (arith, ltb→lt x y t, over N, over G, alike, is_x, is_y))))
      (λ t. not_T (ltb N G) (λ u. omega (arith, ltb→lt N G u, more t)))
    where
      more : T (not (ltb x y)) → G < N
      more t = less_over G N (8 * q) (omega (arith, nltb→le x y t, n, over N, over G, alike, is_x, is_y))

-- nothing differs
pub equal_not : (N G q : ℕ) → N / 2 ^ (8 * q) ≡ G / 2 ^ (8 * q) → q ≡ 0 → false ≡ ltb N G
equal_not N G q e z = same_tests false (ltb N G) (λ t. absurd t) (λ _. not_T (ltb N G) (λ u. omega (arith, ltb→lt N G u, same)))
  where
    all : (M : ℕ) → M / 2 ^ (8 * q) ≡ M
    all M = ap (λ k. M / 2 ^ (8 * k)) z ∙ div-one M

    same : N ≡ G
    same = sym (all N) ∙ e ∙ all G

-- ---- what a comparison tells where it is negated
pub not_below : (N G : ℕ) (r : Bool) → r ≡ ltb N G → not r ≡ true → G ≤ N
not_below N G true e h = absurd (true_false (sym h))
not_below N G false e h = nltb→le N G (subst (λ b. T (not b)) e tt)
