-- `positions::sync::sync_step` meets its contract: each way out is one of the definition's.
-- Assumes nothing.
use mathlib.Core.Path.{sym, ap}
use native.Mathlib.Omega.{arith}
use lib.ListN.{length, length-drop}
use Rattle.positions.proofs.Syncs.{step_none, step_other, step_here}
use Rattle.positions.proofs.sync.sync_step.Goals as goal

pub after-t-requires : goal.after-t-requires
after-t-requires c = tt

pub returns-then-t-lt-WORD : goal.returns-then-t-lt-WORD
returns-then-t-lt-WORD c = sym (step_none _ 0 _ c.after-t.ensures c.if-t-lt-WORD.true _)

pub u32_at-requires : goal.u32_at-requires
u32_at-requires c = tt

pub returns-then-u32_at-number : goal.returns-then-u32_at-number
returns-then-u32_at-number c = sym (step_other _ 0 _ c.after-t.ensures c.if-t-lt-WORD.false c.u32_at.ensures _ c.if-u32_at-number.true)

pub overflow_add-result : goal.overflow_add-result
overflow_add-result c = record { fits = omega (arith, c.well_formed.0.0, c.if-t-lt-WORD.false, ap length c.after-t.ensures, length-drop c.args.at c.args.stss.now) }

pub returns : goal.returns
returns c = sym (step_here _ 0 _ c.after-t.ensures c.if-t-lt-WORD.false c.u32_at.ensures _ c.if-u32_at-number.false)
