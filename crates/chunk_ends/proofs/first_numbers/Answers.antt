-- `chunk_ends::first_numbers` meets its contract: the bytes of so many numbers, or all.
-- Assumes nothing.
use mathlib.Core.Path.{sym}
use native.Mathlib.Omega.{arith}
use lib.Seq.{length-take-le}
use Rattle.words.proofs.Turns.{width_above}
use Rattle.chunk_ends.proofs.RunEnds.{first_fits, first_cut, first_all}
use Rattle.chunk_ends.proofs.first_numbers.Goals as goal

pub nonzero_div-part : goal.nonzero_div-part
nonzero_div-part c = omega (arith, c.width_of-width.ensures, width_above c.args.long)

pub overflow_mul-n : goal.overflow_mul-n
overflow_mul-n c = record { fits = omega (arith, first_fits c.args.long c.args.part.now c.args.count c.width_of-width.ensures c.if-count-part.true, c.well_formed) }

pub slice_bounds-result-end : goal.slice_bounds-result-end
slice_bounds-result-end c =
    let a = c.args in
    sym (length-take-le _ a.part.now (first_fits a.long a.part.now a.count c.width_of-width.ensures c.if-count-part.true))

pub returns-then-count-part : goal.returns-then-count-part
returns-then-count-part c = let a = c.args in first_cut a.long a.part.now a.count c.width_of-width.ensures

pub returns : goal.returns
returns c = let a = c.args in first_all a.long a.part.now a.count c.width_of-width.ensures c.if-count-part.false
