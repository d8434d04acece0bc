-- `step_moves::heads_of` meets its contract: each field is what its callee answers.
-- Assumes nothing.
use Rattle.step_moves.proofs.heads_of.Goals as goal

pub returns : goal.returns
returns c = cc
