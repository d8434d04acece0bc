-- `movie_times::entries::put_edit` meets its contract: three stores, one place after the other, are `sets` of three numbers.
-- Assumes nothing.
use Prim.Native.Nat.{suc, ◌+◌}
use mathlib.Core.Path.{◌≡◌}
use native.Mathlib.Omega.{arith}
use mir.Syntax.{w64}
use mir.ValLaws.{to_z_pos}
use Rattle.bigendian.proofs.Halves.{kept}
use lib.ListN.{length-set}
use Rattle.movie_times.proofs.entries.put_edit.Goals as goal

pub bounds-room-at-2 : goal.bounds-room-at-2
bounds-room-at-2 c = simp (length-set) (omega (arith, c.requires))

pub bounds-room-at-3 : goal.bounds-room-at-3
bounds-room-at-3 c = simp (length-set) (omega (arith, c.requires))

pub returns : goal.returns
returns c =
    let d = c.u32_at-duration in
    let m = c.i32_at-media in
    let a = c.args.at in
    let e : a + 1 ≡ suc a = omega arith in
    let f : a + 2 ≡ suc (suc a) = omega arith in
    rw (
      to_z_pos w64 d.result (omega arith),
      to_z_pos w64 c.u32_at-rate.result (omega arith),
      kept m.result (omega arith),
      d.ensures,
      m.ensures.0,
      c.u32_at-rate.ensures,
      e,
      f,
    )
