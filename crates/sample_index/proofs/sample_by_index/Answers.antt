-- `sample_index::sample_by_index` meets its contract: each way out is one of the answers.
-- Assumes nothing.
use native.Mathlib.Omega.{arith}
use Rattle.sample_index.proofs.Answers.{sample_short, sample_zero, sample_past, sample_looked}
use Rattle.sample_index.proofs.sample_by_index.Goals as goal

pub returns-then-index-count : goal.returns-then-index-count
returns-then-index-count c = sample_short _ _ _ _ (omega (arith, c.if-index-count.true, c.checkpoints_of-count.ensures.0))

pub returns-then-n-eq0 : goal.returns-then-n-eq0
returns-then-n-eq0 c = sample_zero _ _ _ _ (omega (arith, c.if-index-count.false, c.checkpoints_of-count.ensures.0)) c.if-n-eq0.true

pub returns-then-h-n : goal.returns-then-h-n
returns-then-h-n c = sample_past _ _ _ _ (omega (arith, c.if-index-count.false, c.checkpoints_of-count.ensures.0)) c.if-n-eq0.false c.if-h-n.true

pub returns : goal.returns
returns c =
    let g = c.well_formed.1.0.1.1.1.1 in
    let u = c.checkpoints_of-count.ensures.0 in
    sample_looked _ c.args.h _ _ (omega (arith, c.if-index-count.false, u)) c.if-n-eq0.false c.if-h-n.false (omega (arith, g.0)) (omega (arith, g.1.0)) _ u _ c.looked_up.ensures
