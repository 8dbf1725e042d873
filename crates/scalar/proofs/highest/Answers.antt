-- A byte more stands under what was read.
use Rattle.std.proofs.Common.{ℕ, ◌≡◌, ◌∙◌, sym, ap, ◌+◌, ◌-◌, ◌*◌, ◌^◌, ◌<◌, ◌≤◌, length, arith}
use lib.Pow.{pow-add, pow_mono}
use Rattle.meaning.specs.Scalars.{number}
use Rattle.scalar.specs.Orders.{ordered}
use Rattle.scalar.proofs.Bytes.{none_past, byte_under}
use Rattle.scalar.proofs.highest.Goals as goal

-- seven bytes at most
few : (k : ℕ) → k < 8 → 2 ^ (8 * k) ≤ 2 ^ 56
few k h = let l : 8 * k ≤ 56 = omega arith in pow_mono l

-- one more
more : (k : ℕ) → 2 ^ (8 * (k + 1)) ≡ 256 * 2 ^ (8 * k)
more k = ap (λ t. 2 ^ t) (omega arith) ∙ pow-add 2 8 (8 * k)

pub loop-k-init : goal.loop-k-init
loop-k-init c =
    let s = c.args.s.now in
    record { above = sym (none_past (ordered c.args.order) s (λ i. (c.type_inv.s i).fits) (length s - 0) (omega arith)); small = omega arith }

pub overflow_mul-x : goal.overflow_mul-x
overflow_mul-x c = record { fits = omega (arith, few c.loop-k.k (omega arith), c.loop-k.invariant.small) }

pub overflow_add-x : goal.overflow_add-x
overflow_add-x c =
    let byte : c.byte.result < 256 = omega (arith, c.byte.ensures) in
    record { fits = omega (arith, few c.loop-k.k (omega arith), c.loop-k.invariant.small, c.from.ensures) }

pub loop-k-preserved : goal.loop-k-preserved
loop-k-preserved c =
    let l = c.loop-k in
    let a = c.args in
    let byte : c.byte.result < 256 = omega (arith, c.byte.ensures) in
    record {
      above = byte_under (number (ordered a.order) a.s.now) (length a.s.now) l.k l.x c.from.result (omega arith) l.invariant.above (c.from.ensures ∙ c.byte.ensures);
      small = omega (arith, more l.k, l.invariant.small, c.from.ensures);
    }
