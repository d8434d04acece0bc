-- `track_list::put_line` meets its contract: eight stores, one place after the other, are `sets` of eight numbers.
-- Assumes nothing.
use Prim.Native.Nat.{ℕ, suc, ◌+◌}
use mathlib.Core.Path.{◌≡◌}
use native.Mathlib.Nat.{add-zero}
use native.Mathlib.Omega.{arith}
use lib.ListN.{length-set}
use Rattle.track_list.proofs.put_line.Goals as goal

-- a place counted from `at`, as `sets` counts it
next : (a k : ℕ) → a + suc k ≡ suc (a + k)
next a k = omega arith

pub bounds-room-at-2 : goal.bounds-room-at-2
bounds-room-at-2 c = simp (length-set) (omega (arith, c.requires))

pub bounds-room-at-3 : goal.bounds-room-at-3
bounds-room-at-3 c = simp (length-set) (omega (arith, c.requires))

pub bounds-room-at-4 : goal.bounds-room-at-4
bounds-room-at-4 c = simp (length-set) (omega (arith, c.requires))

pub bounds-room-at-5 : goal.bounds-room-at-5
bounds-room-at-5 c = simp (length-set) (omega (arith, c.requires))

pub bounds-room-at-6 : goal.bounds-room-at-6
bounds-room-at-6 c = simp (length-set) (omega (arith, c.requires))

pub bounds-room-at-7 : goal.bounds-room-at-7
bounds-room-at-7 c = simp (length-set) (omega (arith, c.requires))

pub bounds-room-at-8 : goal.bounds-room-at-8
bounds-room-at-8 c = simp (length-set) (omega (arith, c.requires))

pub returns : goal.returns
returns c =
    let a = c.args.at in
    rw (next a 6, next a 5, next a 4, next a 3, next a 2, next a 1, next a 0, add-zero a)
