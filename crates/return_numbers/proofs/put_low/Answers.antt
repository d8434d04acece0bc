-- `return_numbers::put_low` meets its contract. The loop's invariant: the values that are left, stored from there on, make what all of them make.
-- Assumes nothing.
use mathlib.Core.Path.{refl}
use native.Mathlib.Omega.{arith}
use native.Mathlib.Nat.{add-zero}
use lib.ListN.{length-set}
use Rattle.return_numbers.proofs.Copies.{put_turn, put_all}
use Rattle.return_numbers.proofs.put_low.Goals as goal

pub loop-i-init : goal.loop-i-init
loop-i-init c = (omega arith, refl, rw (add-zero c.args.at))

pub loop-i-preserved : goal.loop-i-preserved
loop-i-preserved c =
    let l = c.loop-i in
    let h = c.loop-i-test.true in (
      omega (arith, h),
      simp length-set l.invariant.1,
      rw c.wide.ensures (put_turn c.args.values.now c.args.room.now l.room c.args.at l.i h l.invariant.2),
    )

pub returns : goal.returns
returns c =
    let l = c.loop-i in
    put_all c.args.values.now c.args.room.now l.room c.args.at l.i c.loop-i-test.false l.invariant.0 l.invariant.2
