-- `positions::moving::pass_sample` meets its contract, by what the calls ensure.
-- Assumes nothing.
use Prim.Native.Nat.{◌+◌}
use native.Mathlib.Omega.{arith}
use Rattle.positions.proofs.Standing.{may_known}
use Rattle.positions.proofs.moving.pass_sample.Goals as goal

pub run_pass-times-requires : goal.run_pass-times-requires
run_pass-times-requires c = tt

pub run_pass-shifts-requires : goal.run_pass-shifts-requires
run_pass-shifts-requires c = tt

pub dealt_pass-dealt-requires : goal.dealt_pass-dealt-requires
dealt_pass-dealt-requires c = let w = may_known c.args.m c.requires.0 in (w.0, w.1)

pub overflow_add-result-2 : goal.overflow_add-result-2
overflow_add-result-2 c = record { fits = omega (arith, (may_known c.args.m c.requires.0).2) }

pub returns : goal.returns
returns c =
    let a = c.args in
    λ i. record {
      index = a.m.index + 1;
      decode = a.m.decode + a.m.times.each;
      times = c.run_pass-times.ensures i;
      shifts = c.run_pass-shifts.ensures i;
      dealt = c.dealt_pass-dealt.ensures i;
      sync = a.sync;
    }
