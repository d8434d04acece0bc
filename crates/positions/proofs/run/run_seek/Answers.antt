-- `positions::run::run_seek` meets its contract: the cursor sought is the same from the cursor and the samples still to pass.
-- Assumes nothing.
use mathlib.Core.Path.{sym, ap, ◌∙◌}
use native.Mathlib.Omega.{arith}
use lib.ListN.{length, length-drop}
use Rattle.positions.proofs.Runs.{seek_start, seek_in, seek_end, seek_next}
use Rattle.positions.proofs.run.run_seek.Goals as goal

pub run_start-r-requires : goal.run_start-r-requires
run_start-r-requires c = tt

pub loop-r-init : goal.loop-r-init
loop-r-init c = rw c.run_start-r.ensures (seek_start _ _)

pub after-t-requires : goal.after-t-requires
after-t-requires c = tt

pub run_pass-requires : goal.run_pass-requires
run_pass-requires c = tt

pub returns-then-t-lt-RUN : goal.returns-then-t-lt-RUN
returns-then-t-lt-RUN c =
    let l = c.loop-r in
    c.run_pass.ensures ∙ sym (seek_end _ l.r l.skip c.after-t.ensures c.if-t-lt-RUN.true) ∙ l.invariant

pub overflow_add-r : goal.overflow_add-r
overflow_add-r c = record { fits = omega (arith, c.well_formed.0.0, c.if-t-lt-RUN.false, ap length c.after-t.ensures, length-drop c.loop-r.r.at c.args.table.now) }

pub u32_at-requires : goal.u32_at-requires
u32_at-requires c = tt

pub u32_at-requires-in-loop-r : goal.u32_at-requires-in-loop-r
u32_at-requires-in-loop-r c = tt

pub loop-r-smaller : goal.loop-r-smaller
loop-r-smaller c = omega (arith, c.if-t-lt-RUN.false, ap length c.after-t.ensures, length-drop c.loop-r.r.at c.args.table.now)

pub loop-r-preserved : goal.loop-r-preserved
loop-r-preserved c =
    let l = c.loop-r in
    seek_next _ l.r l.skip c.after-t.ensures c.if-t-lt-RUN.false c.loop-r-test.true c.u32_at.ensures c.u32_at-in-loop-r.ensures ∙ l.invariant

pub run_pass-requires-2 : goal.run_pass-requires-2
run_pass-requires-2 c = tt

pub returns : goal.returns
returns c = let l = c.loop-r in c.run_pass-2.ensures ∙ sym (seek_in _ l.r l.skip c.loop-r-test.false) ∙ l.invariant
