-- `byte_writing::put_u32` meets its contract: four stores, one after the other.
-- Assumes nothing.
use native.Mathlib.Omega.{arith}
use Prim.Native.Nat.{suc, ◌+◌}
use mathlib.Core.Path.{◌≡◌}
use lib.ListN.{length-set}
use Rattle.byte_writing.specs.Bytes.{be32}
use Rattle.byte_writing.proofs.put_u32.Goals as goal

pub bounds-out-at-2 : goal.bounds-out-at-2
bounds-out-at-2 c = simp (length-set) (omega (arith, c.requires))

pub bounds-out-at-3 : goal.bounds-out-at-3
bounds-out-at-3 c = simp (length-set) (omega (arith, c.requires))

pub bounds-out-at-4 : goal.bounds-out-at-4
bounds-out-at-4 c = simp (length-set) (omega (arith, c.requires))

pub returns : goal.returns
unfolding be32
returns c =
    let a = c.args.at in
    let d : a + 1 ≡ suc a = omega arith in
    let e : a + 2 ≡ suc (suc a) = omega arith in
    let f : a + 3 ≡ suc (suc (suc a)) = omega arith in
    rw (d, e, f)
