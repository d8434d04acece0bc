-- `pairs::run_at` meets its contract.
-- Assumes nothing.
use native.Mathlib.Omega.{arith}
use Rattle.lists.proofs.Laws.{wide_mul}
use Rattle.pairs.proofs.Wholes.{run_made}
use Rattle.pairs.proofs.run_at.Goals as goal

pub overflow_mul-result : goal.overflow_mul-result
overflow_mul-result c = record { fits = wide_mul (omega arith) c.u32_at-each.type_inv }

pub returns : goal.returns
returns c = run_made _ _ c.args.p _ _ c.is_long.ensures c.u32_at-each.ensures
