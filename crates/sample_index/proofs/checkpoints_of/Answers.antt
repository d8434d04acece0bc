-- `sample_index::checkpoints_of` meets its contract: the least number that, times 64, reaches the samples.
-- Assumes nothing.
use native.Mathlib.Omega.{arith}
use Rattle.rates.proofs.Quotients.{is_round_up}
use Rattle.sample_index.proofs.checkpoints_of.Goals as goal

pub returns : goal.returns
returns c =
    let l = c.ceiling.ensures in
    (is_round_up (omega arith) l, l.least 67108864 (omega arith), l.reaches)
