-- `peaks::slid` meets its contract: the window slides over runs that are no higher than the best, or stays.
-- Assumes nothing.
use native.Mathlib.Omega.{arith}
use Rattle.rates.proofs.Orders.{rate_known}
use Rattle.windows.proofs.Rating.{span_fits}
use Rattle.peaks.proofs.Skipping.{run_length, may_slide, skips, skips_none}
use Rattle.peaks.proofs.slid.Goals as goal

pub returns-in_default : goal.returns-in_default
returns-in_default c = skips_none _ _ _ _ _ c.requires.0 c.requires.2 c.requires.4

pub slide_entries-requires : goal.slide_entries-requires
slide_entries-requires c =
    let g = c.in-Some.is in
    (c.requires.0, c.requires.1, c.requires.2, rw g at c.requires.3, rw g at c.requires.4, c.has_entries.ensures c.if-has_entries.true)

pub returns-then-has_entries : goal.returns-then-has_entries
returns-then-has_entries c = rw c.in-Some.is c.slide_entries.ensures

pub returns-then-steps-lt8 : goal.returns-then-steps-lt8
returns-then-steps-lt8 c = skips_none _ _ _ _ _ c.requires.0 c.requires.2 c.requires.4

pub most_bytes-most-requires : goal.most_bytes-most-requires
most_bytes-most-requires c = ((rate_known _ _ _ (c.requires.3 _ c.in-Some.is).0).divides, span_fits _ _ _ c.requires.1 _ c.requires.0)

pub returns-then-most-w : goal.returns-then-most-w
returns-then-most-w c = skips_none _ _ _ _ _ c.requires.0 c.requires.2 c.requires.4

pub slide_over-requires : goal.slide_over-requires
slide_over-requires c = may_slide _ _ _ c.requires.1 _ c.requires.0 c.requires.2 _ _ c.level_steps-steps.ensures c.if-most-w.false

pub moved_by-requires : goal.moved_by-requires
moved_by-requires c =
    let v = c.level_steps-steps.ensures in
    let k = run_length _ _ _ c.requires.0.head _ v.heads c.requires.0.few in
    (omega (arith, k, c.requires.1.few, c.slide_over.ensures.within), c.requires.0.run.order)

pub returns : goal.returns
returns c =
    let g = c.in-Some.is in
    rw (c.moved_by.ensures, g) (skips _ _ _ c.requires.1 _ c.requires.0 c.requires.2 _ _ c.level_steps-steps.ensures _ c.slide_over.ensures _ (c.requires.3 _ g).0 c.most_bytes-most.ensures)
