-- `pairs::place_past` meets its contract.
-- Assumes nothing.
use Prim.Native.Nat.{◌<◌, ◌^◌}
use native.Mathlib.Omega.{arith}
use Rattle.pairs.proofs.Walking.{place_made, past_fits}
use Rattle.pairs.proofs.place_past.Goals as goal

pub overflow_mul-result : goal.overflow_mul-result
overflow_mul-result c =
    let h : c.args.p.cursor.per < 2 ^ 32 = omega arith in
    record { fits = omega (arith, past_fits c.args.p.begin c.args.n c.args.p.cursor.per h c.requires.1 c.requires.2) }

pub overflow_add-result-2 : goal.overflow_add-result-2
overflow_add-result-2 c =
    let h : c.args.p.cursor.per < 2 ^ 32 = omega arith in
    record { fits = past_fits c.args.p.begin c.args.n c.args.p.cursor.per h c.requires.1 c.requires.2 }

pub returns : goal.returns
returns c = let a = c.args in place_made _ _ a.n a.p _ _ _ _ c.pass.ensures c.ready.ensures.0
