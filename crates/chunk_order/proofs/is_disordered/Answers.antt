-- `chunk_order::is_disordered` meets its contract: what the chunks ahead of the cursor say after the last one is what all say.
-- Assumes nothing.
use native.Mathlib.Omega.{arith}
use mathlib.Core.Path.{refl}
use Rattle.chunk_order.proofs.Orders.{ordering_start, ordered, per_fits, breaks_order, ordering_less, ordering_next, next_offsets, not_ordered}
use Rattle.chunk_order.proofs.is_disordered.Goals as goal

pub loop-c-init : goal.loop-c-init
loop-c-init c = let a = c.args in ordering_start a.stsc.now a.offsets.now a.stsz.now c.requires c.u32_at-chunks.ensures c.is_long-long.ensures c.after-t.ensures c.start_cursor.ensures c.ready-c.ensures.0

pub returns-then-not-may_follow : goal.returns-then-not-may_follow
returns-then-not-may_follow c = not_ordered _ _ _ (breaks_order c.loop-c.invariant (omega (arith, c.loop-c-test.true)) c.number_in-next.ensures c.may_follow.ensures c.if-not-may_follow.true)

pub overflow_add-to : goal.overflow_add-to
overflow_add-to c = record { fits = per_fits c.loop-c.invariant (omega (arith, c.loop-c-test.true)) }

pub loop-c-smaller : goal.loop-c-smaller
loop-c-smaller c = ordering_less c.loop-c.invariant (omega (arith, c.loop-c-test.true)) c.number_in-next.ensures c.may_follow.ensures c.pass.ensures c.ready-c-in-loop-c.ensures.0

pub loop-c-preserved : goal.loop-c-preserved
loop-c-preserved c = ordering_next c.loop-c.invariant (omega (arith, c.loop-c-test.true)) c.number_in-next.ensures c.may_follow.ensures c.pass.ensures c.ready-c-in-loop-c.ensures.0 c.if-not-may_follow.false refl c.bytes_between-bytes.ensures.0 (next_offsets c.is_long-long.result c.loop-c.t.now c.width_of-width.ensures c.after-others.ensures)

pub returns : goal.returns
returns c = not_ordered _ _ _ (ordered c.loop-c.invariant c.loop-c-test.false)
