-- `position_numbers::run_at` meets its contract: each field is what its callee answers.
-- Assumes nothing.
use Rattle.position_numbers.proofs.run_at.Goals as goal

pub returns : goal.returns
returns c = cc
