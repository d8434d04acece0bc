-- `position_numbers::moving_at` meets its contract: each field is what its callee answers.
-- Assumes nothing.
use Rattle.position_numbers.proofs.moving_at.Goals as goal

pub returns : goal.returns
returns c = cc
