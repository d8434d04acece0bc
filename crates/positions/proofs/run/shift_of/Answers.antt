-- `positions::run::shift_of` meets its contract: each way out is one of the definition's.
-- Assumes nothing.
use mathlib.Core.Path.{◌∙◌}
use native.Mathlib.Omega.{arith}
use Rattle.bigendian.proofs.Halves.{kept}
use Rattle.positions.proofs.Runs.{shift_none, shift_some}
use Rattle.positions.proofs.run.shift_of.Goals as goal

pub returns-then-c-eq0 : goal.returns-then-c-eq0
returns-then-c-eq0 c = (shift_none _ c.if-c-eq0.true, omega arith)

pub signed-requires : goal.signed-requires
signed-requires c = tt

pub returns : goal.returns
returns c =
    let k = kept c.signed.result c.signed.type_inv in
    rw k (c.signed.ensures.0 ∙ shift_some c.args.c c.if-c-eq0.false, c.signed.ensures.1)
