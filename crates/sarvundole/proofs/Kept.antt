-- The states of a reader fit what a caller keeps: the one that it starts with, and the one after a call of any other that fits.
-- Assumes nothing.
use mathlib.Core.List.{List}
use Prim.Native.Nat.{ℕ}
use native.Mathlib.Omega.{arith}
use Rattle.meaning.specs.Scalars.{Order, order_of}
use Rattle.reader.specs.declared.State.{State}
use Rattle.reader.specs.States.{call, moved, After}
use Rattle.reader.proofs.Bounds.{starts_few, takes_few}
use Rattle.sarvundole.specs.Kept.{Small}

pub starts_small : {w : ℕ} {o : Order} {s : List ℕ} {q : State} → After w o s 0 q → Small q
starts_small A =
    let f = starts_few A in
    record { place_fits = omega (arith, f.place_le); spot_fits = omega (arith, f.spot_le); floor_fits = omega (arith, f.floor_le) }

pub moves_small : (s : List ℕ) (q : State) → Small q → Small (moved q (call s q))
moves_small s q m =
    let f = takes_few 65535 (omega arith) (order_of q.order) s q.place q.width q.pending q.spot q.floor
    (record { place_le = omega (arith, m.place_fits); spot_le = omega (arith, m.spot_fits); floor_le = omega (arith, m.floor_fits) }) in
    record { place_fits = omega (arith, f.place_le); spot_fits = omega (arith, f.spot_le); floor_fits = omega (arith, f.floor_le) }
