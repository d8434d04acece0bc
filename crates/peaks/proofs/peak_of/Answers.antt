-- `peaks::peak_of` meets its contract: the best run so far and the runs from the window on are the best of all, and at the end no run is left.
-- Assumes nothing.
use Prim.Native.Nat.{◌-◌}
use mathlib.Core.Path.{ap, ◌∙◌}
use native.Mathlib.Omega.{arith}
use Rattle.peaks.specs.Slides.{to_peak}
use Rattle.windows.proofs.Sliding.{slides_start, some_run}
use Rattle.windows.proofs.Rating.{span_fits}
use Rattle.peaks.proofs.Passing.{raised_absorbs, pass_start, pass_next, pass_end}
use Rattle.peaks.proofs.Placing.{best_placed}
use Rattle.peaks.proofs.peak_of.Goals as goal

pub extended-w-requires : goal.extended-w-requires
extended-w-requires c = rw c.start_window.ensures (slides_start _ _ _, c.requires)

pub rated-best-requires : goal.rated-best-requires
rated-best-requires c =
    let k = c.requires in
    let e = c.extended-w.ensures.slides in
    (e.run.order, omega (arith, e.few, k.few), span_fits _ _ _ k _ e)

pub loop-w-init : goal.loop-w-init
loop-w-init c =
    let k = c.requires in
    pass_start _ _ _ k _ _ (rw c.start_window.ensures at c.extended-w.ensures) c.rated-best.ensures.0 c.rated-best.ensures.1

pub raised-best-requires : goal.raised-best-requires
raised-best-requires c =
    let k = c.requires in
    let e = c.loop-w.invariant.reaches.slides in
    (c.loop-w.invariant.rated, e.run.order, omega (arith, e.few, k.few), omega (arith, k.some_scale, c.loop-w-test.true), span_fits _ _ _ k _ e)

pub slid-requires : goal.slid-requires
slid-requires c =
    let k = c.requires in
    let r = c.raised-best.ensures in
    (c.loop-w.invariant.reaches.slides, k, c.loop-w-test.true, r.rated, raised_absorbs _ _ _ _ r)

pub next_window-w-requires : goal.next_window-w-requires
next_window-w-requires c = (c.slid.ensures.slides, c.requires, c.slid.ensures.reaches)

pub loop-w-smaller : goal.loop-w-smaller
loop-w-smaller c =
    let x = c.slid.ensures in
    let k = c.requires in
    omega (arith, c.next_window-w.ensures.from, x.later, some_run _ _ _ _ _ _ _ k.some_scale x.slides.run x.reaches, x.slides.few)

pub loop-w-preserved : goal.loop-w-preserved
loop-w-preserved c =
    let k = c.requires in
    pass_next _ _ _ k _ _ c.loop-w.invariant c.loop-w-test.true _ _ _ c.raised-best.ensures c.slid.ensures c.next_window-w.ensures

pub returns : goal.returns
returns c =
    let k = c.requires in
    c.to_peak.ensures ∙ ap to_peak (pass_end _ _ _ k _ _ c.loop-w.invariant c.loop-w-test.false) ∙ best_placed _ _ _ k.some_scale
