-- `sample_index::number_by_index` meets its contract: each way out is one of the answers.
-- Assumes nothing.
use native.Mathlib.Omega.{arith}
use Rattle.sample_index.proofs.Answers.{number_short, number_none, number_looked}
use Rattle.sample_index.proofs.number_by_index.Goals as goal

pub returns-then-index-count : goal.returns-then-index-count
returns-then-index-count c = number_short _ _ _ _ (omega (arith, c.if-index-count.true, c.checkpoints_of-count.ensures.0))

pub returns-then-samples-eq0 : goal.returns-then-samples-eq0
returns-then-samples-eq0 c = number_none _ _ _ _ (omega (arith, c.if-index-count.false, c.checkpoints_of-count.ensures.0)) c.if-samples-eq0.true

pub returns : goal.returns
returns c =
    let g = c.well_formed.1.0.1.1.1.1 in
    let u = c.checkpoints_of-count.ensures.0 in
    number_looked _ c.args.h _ _ (omega (arith, c.if-index-count.false, u)) (omega (arith, g.0)) (omega (arith, g.1.0)) _ u _ c.part_of.ensures _ c.number_from.ensures
