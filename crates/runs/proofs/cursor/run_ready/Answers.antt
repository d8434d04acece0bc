-- `runs::cursor::run_ready` meets its contract: a cursor past an entry of no samples is readied to the same one.
-- Assumes nothing.
use mathlib.Core.Path.{refl, sym, ap, ◌∙◌}
use native.Mathlib.Omega.{arith}
use lib.ListN.{length, length-drop}
use Rattle.runs.proofs.Cursors.{ready_stop, ready_end, ready_next}
use Rattle.runs.proofs.cursor.run_ready.Goals as goal

pub loop-r-init : goal.loop-r-init
loop-r-init c = refl

pub returns-then-t-lt-ENTRY : goal.returns-then-t-lt-ENTRY
returns-then-t-lt-ENTRY c =
    let l = c.loop-r in
    sym (ready_end _ l.r c.after-t.ensures c.if-t-lt-ENTRY.true) ∙ l.invariant

pub overflow_add-r : goal.overflow_add-r
overflow_add-r c = omega (arith, c.well_formed.0.0, c.if-t-lt-ENTRY.false, ap length c.after-t.ensures, length-drop c.loop-r.r.at c.args.table.now)

pub loop-r-smaller : goal.loop-r-smaller
loop-r-smaller c = omega (arith, c.if-t-lt-ENTRY.false, ap length c.after-t.ensures, length-drop c.loop-r.r.at c.args.table.now)

pub loop-r-preserved : goal.loop-r-preserved
loop-r-preserved c =
    let l = c.loop-r in
    ready_next _ l.r c.after-t.ensures c.if-t-lt-ENTRY.false c.loop-r-test.true c.u32_at.ensures c.u32_at-in-loop-r.ensures ∙ l.invariant

pub returns : goal.returns
returns c = let l = c.loop-r in sym (ready_stop _ l.r c.loop-r-test.false) ∙ l.invariant
