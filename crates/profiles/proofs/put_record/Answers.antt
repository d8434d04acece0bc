-- `profiles::put_record` meets its contract: three stores, one place after the other.
-- Assumes nothing.
use Prim.Native.Nat.{suc, ◌+◌}
use mathlib.Core.Path.{◌≡◌}
use native.Mathlib.Omega.{arith}
use lib.ListN.{length-set}
use Rattle.profiles.proofs.put_record.Goals as goal

pub bounds-room-at-2 : goal.bounds-room-at-2
bounds-room-at-2 c = simp (length-set) (omega (arith, c.requires))

pub bounds-room-at-3 : goal.bounds-room-at-3
bounds-room-at-3 c = simp (length-set) (omega (arith, c.requires))

pub returns : goal.returns
returns c =
    let a = c.args.at in
    let e : a + 1 ≡ suc a = omega arith in
    let f : a + 2 ≡ suc (suc a) = omega arith in
    rw (c.u32_at.ensures, c.u32_at-2.ensures, c.u32_at-3.ensures, e, f)
