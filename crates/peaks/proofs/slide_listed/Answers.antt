-- `peaks::slide_listed` meets its contract: what left the window and what entered it make up its bytes, and each turn's are no more than the most.
-- Assumes nothing.
use native.Mathlib.Omega.{arith}
use lib.ListN.{length-drop}
use Rattle.bigendian.proofs.Parts.{rest as part-rest}
use Rattle.peaks.proofs.Overs.{over_start, leaves, moves, over_next}
use Rattle.peaks.proofs.slide_listed.Goals as goal

pub loop-h-init : goal.loop-h-init
loop-h-init c = over_start _ _ _ _ c.requires.0 c.requires.1

pub overflow_add-more : goal.overflow_add-more
overflow_add-more c =
    let s = c.requires.0 in
    let m = moves _ _ _ _ s _ _ _ _ _ c.loop-h.invariant c.loop-h-test.true in
    record { fits = omega (arith, c.loop-h.invariant.few, s.fits, c.whole32.type_inv) }

pub overflow_add-gone : goal.overflow_add-gone
overflow_add-gone c =
    let s = c.requires.0 in
    let i = c.loop-h.invariant in
    let m = moves _ _ _ _ s _ _ _ _ _ i c.loop-h-test.true in
    let k = leaves _ _ _ _ s _ _ _ _ _ i c.loop-h-test.true c.whole32-in-loop-h.ensures in
    record { fits = omega (arith, i.few, s.fits) }

pub overflow_sub-next : goal.overflow_sub-next
overflow_sub-next c =
    let k = leaves _ _ _ _ c.requires.0 _ _ _ _ _ c.loop-h.invariant c.loop-h-test.true c.whole32-in-loop-h.ensures in
    omega arith

pub overflow_add-moved : goal.overflow_add-moved
overflow_add-moved c =
    let m = moves _ _ _ _ c.requires.0 _ _ _ _ _ c.loop-h.invariant c.loop-h-test.true in
    record { fits = omega arith }

pub slice_bounds-t-count : goal.slice_bounds-t-count
slice_bounds-t-count c = omega (arith, c.loop-h.invariant.longer, c.loop-h-test.true)

pub slice_bounds-t-start : goal.slice_bounds-t-start
slice_bounds-t-start c = omega (arith, c.loop-h.invariant.longer, c.loop-h-test.true)

pub loop-h-smaller : goal.loop-h-smaller
loop-h-smaller c =
    let l = c.loop-h.h.now in
    rw (part-rest 4 l) (omega (arith, length-drop 4 l, c.loop-h-test.true))

pub loop-h-preserved : goal.loop-h-preserved
loop-h-preserved c =
    rw (part-rest 4 c.loop-h.h.now, part-rest 4 c.loop-h.t.now)
    (over_next _ _ _ _ c.requires.0 _ _ _ _ _ c.loop-h.invariant c.loop-h-test.true c.whole32.ensures c.whole32-in-loop-h.ensures (omega (arith, c.whole32.type_inv)) c.if-most-next.false)

pub overflow_sub-total : goal.overflow_sub-total
overflow_sub-total c = c.loop-h.invariant.held

pub returns : goal.returns
returns c = c.loop-h.invariant.so_far
