-- `positions::sync::sync_seek` meets its contract: the numbers not above the index are those passed and those still to pass.
-- Assumes nothing.
use mathlib.Core.Path.{ap}
use native.Mathlib.Omega.{arith}
use lib.ListN.{length, length-drop}
use Rattle.positions.proofs.Syncs.{place_start, place_end, place_here, place_next}
use Rattle.positions.proofs.sync.sync_seek.Goals as goal

pub loop-t-init : goal.loop-t-init
loop-t-init c = place_start _ _

pub after-t-requires : goal.after-t-requires
after-t-requires c = tt

pub returns-then-t-lt-WORD : goal.returns-then-t-lt-WORD
returns-then-t-lt-WORD c = let l = c.loop-t in omega (arith, l.invariant, place_end c.args.stss.now c.args.index l.at c.after-t.ensures c.if-t-lt-WORD.true)

pub u32_at-requires : goal.u32_at-requires
u32_at-requires c = tt

pub returns-then-index-u32_at : goal.returns-then-index-u32_at
returns-then-index-u32_at c = let l = c.loop-t in omega (arith, l.invariant, place_here c.args.stss.now c.args.index l.at c.after-t.ensures c.if-t-lt-WORD.false c.u32_at.ensures c.if-index-u32_at.true)

pub overflow_add-at : goal.overflow_add-at
overflow_add-at c = record { fits = omega (arith, c.well_formed.0.0, c.if-t-lt-WORD.false, ap length c.after-t.ensures, length-drop c.loop-t.at c.args.stss.now) }

pub loop-t-smaller : goal.loop-t-smaller
loop-t-smaller c = omega (arith, c.if-t-lt-WORD.false, ap length c.after-t.ensures, length-drop c.loop-t.at c.args.stss.now)

pub loop-t-preserved : goal.loop-t-preserved
loop-t-preserved c =
    let a = c.args in
    omega (arith, c.loop-t.invariant, place_next a.stss.now a.index c.loop-t.at c.after-t.ensures c.if-t-lt-WORD.false c.u32_at.ensures c.if-index-u32_at.false)
