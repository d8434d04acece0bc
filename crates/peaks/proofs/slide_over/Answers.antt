-- `peaks::slide_over` meets its contract: with a common size the bytes stay the same, and listed sizes are those of two parts of the table.
-- Assumes nothing.
use mathlib.Core.Path.{sym}
use lib.Seq.{length-take-le}
use Rattle.peaks.proofs.Overs.{slid_common, tails_enough, heads_enough, parts_stay, parts_slid}
use Rattle.peaks.proofs.slide_over.Goals as goal

pub returns-then-u32_at-ne0 : goal.returns-then-u32_at-ne0
returns-then-u32_at-ne0 c = slid_common _ _ _ _ _ _ _ c.u32_at.ensures c.if-u32_at-ne0.true c.requires

pub slice_bounds-slide_listed-end : goal.slice_bounds-slide_listed-end
slice_bounds-slide_listed-end c = sym (length-take-le _ _ (tails_enough _ _ _ _ _ _ _ _ _ _ c.u32_at.ensures c.if-u32_at-ne0.false c.after-part.ensures c.after-tails.ensures c.after-heads.ensures c.requires))

pub slice_bounds-slide_listed-end-2 : goal.slice_bounds-slide_listed-end-2
slice_bounds-slide_listed-end-2 c = sym (length-take-le _ _ (heads_enough _ _ _ _ _ _ _ _ _ _ c.u32_at.ensures c.if-u32_at-ne0.false c.after-part.ensures c.after-tails.ensures c.after-heads.ensures c.requires))

pub slide_listed-requires : goal.slide_listed-requires
slide_listed-requires c = parts_stay _ _ _ _ _ _ _ _ _ _ c.u32_at.ensures c.if-u32_at-ne0.false c.after-part.ensures c.after-tails.ensures c.after-heads.ensures c.requires

pub returns : goal.returns
returns c = parts_slid _ _ _ _ _ _ _ _ _ _ c.u32_at.ensures c.if-u32_at-ne0.false c.after-part.ensures c.after-tails.ensures c.after-heads.ensures c.requires _ c.slide_listed.ensures
