-- `steps_into::put_sample` meets its contract: eight stores, one place after the other, are `sets` of eight numbers.
-- Assumes nothing.
use Prim.Native.Nat.{suc, ◌+◌}
use mathlib.Core.Path.{◌≡◌, refl}
use mathlib.Core.Bool.{Bool, true, false, cond}
use native.Mathlib.Omega.{arith}
use mir.Syntax.{w64}
use mir.Val.{bool_byte, to_z}
use mir.ValLaws.{to_z_pos}
use lib.IntN.{pos}
use Rattle.bigendian.proofs.Halves.{kept}
use lib.ListN.{length-set}
use Rattle.steps_into.proofs.put_sample.Goals as goal

as_number : (b : Bool) → to_z w64 (bool_byte b) ≡ pos (cond b 1 0)
as_number true = refl
as_number false = refl

pub bounds-room-at-2 : goal.bounds-room-at-2
bounds-room-at-2 c = simp length-set (omega (arith, c.requires))

pub bounds-room-at-3 : goal.bounds-room-at-3
bounds-room-at-3 c = simp length-set (omega (arith, c.requires))

pub bounds-room-at-4 : goal.bounds-room-at-4
bounds-room-at-4 c = simp length-set (omega (arith, c.requires))

pub bounds-room-at-5 : goal.bounds-room-at-5
bounds-room-at-5 c = simp length-set (omega (arith, c.requires))

pub bounds-room-at-6 : goal.bounds-room-at-6
bounds-room-at-6 c = simp length-set (omega (arith, c.requires))

pub bounds-room-at-7 : goal.bounds-room-at-7
bounds-room-at-7 c = simp length-set (omega (arith, c.requires))

pub bounds-room-at-8 : goal.bounds-room-at-8
bounds-room-at-8 c = simp length-set (omega (arith, c.requires))

pub shape_of-room : goal.shape_of-room
shape_of-room c = simp length-set

pub returns : goal.returns
returns c =
    let x = c.args.x in
    let a = c.args.at in
    let p1 : a + 1 ≡ suc a = omega arith in
    let p2 : a + 2 ≡ suc (suc a) = omega arith in
    let p3 : a + 3 ≡ suc (suc (suc a)) = omega arith in
    let p4 : a + 4 ≡ suc (suc (suc (suc a))) = omega arith in
    let p5 : a + 5 ≡ suc (suc (suc (suc (suc a)))) = omega arith in
    let p6 : a + 6 ≡ suc (suc (suc (suc (suc (suc a))))) = omega arith in
    let p7 : a + 7 ≡ suc (suc (suc (suc (suc (suc (suc a)))))) = omega arith in
    rw (
      to_z_pos w64 x.decode (omega (arith, c.requires)),
      to_z_pos w64 x.duration (omega (arith, c.well_formed)),
      kept x.composition (omega (arith, c.well_formed)),
      as_number x.sync,
      to_z_pos w64 x.description (omega (arith, c.well_formed)),
      to_z_pos w64 x.chunk (omega (arith, c.requires)),
      to_z_pos w64 x.offset (omega (arith, c.requires)),
      to_z_pos w64 x.size (omega (arith, c.well_formed)),
      p1,
      p2,
      p3,
      p4,
      p5,
      p6,
      p7,
    )
