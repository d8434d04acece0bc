-- `peaks::slide_entries` meets its contract: each turn takes the window to that of the next sample, whose run is no higher than the best.
-- Assumes nothing.
use Prim.Native.Nat.{◌-◌}
use mathlib.Core.Path.{refl, sym, ◌∙◌}
use native.Mathlib.Omega.{arith}
use Rattle.bigendian.proofs.Parts.{rest as part-rest}
use Rattle.windows.proofs.Bests.{no_higher_run_known, single_known}
use Rattle.peaks.proofs.Skipping.{skips_none}
use Rattle.peaks.proofs.EntrySlides.{enters_start, some_entries, some_sizes, leaves_span, leaves_bytes, span_next, moves_on, enters_next, may_stand}
use Rattle.peaks.proofs.slide_entries.Goals as goal

pub loop-h-init : goal.loop-h-init
loop-h-init c =
    let q = c.requires in
    enters_start _ _ _ q.1 _ _ q.5 _ _ _ _ _ (skips_none _ _ _ _ _ q.0 q.2 q.4) c.after-t.ensures c.after-h.ensures c.after-part.ensures c.after-o.ensures c.after-i.ensures

pub overflow_sub-rest : goal.overflow_sub-rest
overflow_sub-rest c =
    let p = c.requires in
    let e = c.loop-h.invariant in
    leaves_span _ _ _ p.1 _ _ p.5 _ _ _ _ _ e

pub overflow_add-span : goal.overflow_add-span
overflow_add-span c =
    let p = c.requires in
    let e = c.loop-h.invariant in
    record { fits = omega (arith, span_next _ _ _ p.1 _ _ p.5 _ _ _ _ _ e) }

pub overflow_add-entered : goal.overflow_add-entered
overflow_add-entered c =
    let p = c.requires in
    let e = c.loop-h.invariant in
    let m = moves_on _ _ _ p.1 _ _ p.5 _ _ _ _ _ e c.if-i-lt4.false in
    record { fits = omega (arith, e.few, p.0.low, p.0.few, p.1.few, c.whole32.type_inv) }

pub whole32-requires-in-loop-h : goal.whole32-requires-in-loop-h
whole32-requires-in-loop-h c =
    let p = c.requires in
    let e = c.loop-h.invariant in
    omega (arith, some_sizes _ _ _ p.1 _ _ p.5 _ _ _ _ _ e c.if-i-lt4.false)

pub overflow_add-left : goal.overflow_add-left
overflow_add-left c =
    let p = c.requires in
    let e = c.loop-h.invariant in
    let m = moves_on _ _ _ p.1 _ _ p.5 _ _ _ _ _ e c.if-i-lt4.false in
    let k = leaves_bytes _ _ _ p.1 _ _ p.5 _ _ _ _ _ e c.if-i-lt4.false c.whole32-in-loop-h.ensures in
    record { fits = omega (arith, k, e.few, p.0.low, p.0.few, p.1.few) }

pub overflow_sub-bytes : goal.overflow_sub-bytes
overflow_sub-bytes c =
    let p = c.requires in
    let e = c.loop-h.invariant in
    omega (arith, leaves_bytes _ _ _ p.1 _ _ p.5 _ _ _ _ _ e c.if-i-lt4.false c.whole32-in-loop-h.ensures)

pub is_no_higher_run-requires : goal.is_no_higher_run-requires
is_no_higher_run-requires c =
    let p = c.requires in
    let e = c.loop-h.invariant in
    (omega (arith, span_next _ _ _ p.1 _ _ p.5 _ _ _ _ _ e, leaves_span _ _ _ p.1 _ _ p.5 _ _ _ _ _ e), (p.3 _ refl).1)

pub are_single-requires : goal.are_single-requires
are_single-requires c =
    let p = c.requires in
    let e = c.loop-h.invariant in
    (some_entries _ _ _ p.1 _ _ p.5 _ _ _ _ _ e c.loop-h-test.true, c.loop-h-test.true)

pub overflow_add-x : goal.overflow_add-x
overflow_add-x c =
    let p = c.requires in
    let e = c.loop-h.invariant in
    record { fits = omega (arith, moves_on _ _ _ p.1 _ _ p.5 _ _ _ _ _ e c.if-i-lt4.false) }

pub whole32-requires-in-loop-h-2 : goal.whole32-requires-in-loop-h-2
whole32-requires-in-loop-h-2 c =
    let p = c.requires in
    let e = c.loop-h.invariant in
    omega (arith, some_entries _ _ _ p.1 _ _ p.5 _ _ _ _ _ e c.loop-h-test.true)

pub slice_bounds-t-count : goal.slice_bounds-t-count
slice_bounds-t-count c =
    let p = c.requires in
    let e = c.loop-h.invariant in
    omega (arith, some_entries _ _ _ p.1 _ _ p.5 _ _ _ _ _ e c.loop-h-test.true)

pub slice_bounds-t-start : goal.slice_bounds-t-start
slice_bounds-t-start c =
    let p = c.requires in
    let e = c.loop-h.invariant in
    omega (arith, some_entries _ _ _ p.1 _ _ p.5 _ _ _ _ _ e c.loop-h-test.true)

pub slice_bounds-o-count : goal.slice_bounds-o-count
slice_bounds-o-count c =
    let p = c.requires in
    let e = c.loop-h.invariant in
    omega (arith, some_sizes _ _ _ p.1 _ _ p.5 _ _ _ _ _ e c.if-i-lt4.false)

pub slice_bounds-o-start : goal.slice_bounds-o-start
slice_bounds-o-start c =
    let p = c.requires in
    let e = c.loop-h.invariant in
    omega (arith, some_sizes _ _ _ p.1 _ _ p.5 _ _ _ _ _ e c.if-i-lt4.false)

pub loop-h-preserved : goal.loop-h-preserved
loop-h-preserved c =
    let p = c.requires in
    let e = c.loop-h.invariant in
    let r = no_higher_run_known _ _ _ _ _ (sym c.is_no_higher_run.ensures ∙ c.if-not-is_no_higher_run.false) in
    let u = single_known _ _ (sym c.are_single.ensures ∙ c.if-not-are_single.false) in
    rw (part-rest 8 c.loop-h.h.now, part-rest 8 c.loop-h.t.now, part-rest 4 c.loop-h.o.now, part-rest 4 c.loop-h.i.now, c.whole32-in-loop-h-2.ensures, c.whole32-in-loop-h-3.ensures)
    (enters_next _ _ _ p.1 _ _ p.5 _ _ _ _ _ e c.if-i-lt4.false c.loop-h-test.true c.whole32.ensures c.whole32-in-loop-h.ensures (omega (arith, c.whole32.type_inv)) u.0 u.1 r.0 (p.3 _ refl).0 r.1 r.2)

pub window_at-requires : goal.window_at-requires
window_at-requires c =
    let p = c.requires in
    let e = c.loop-h.invariant in
    may_stand _ _ _ p.1 _ _ p.5 _ _ _ _ _ e c.well_formed.0.0

pub returns : goal.returns
returns c = rw c.window_at.ensures c.loop-h.invariant.skips
