-- `position_numbers::position_in` meets its contract: each field is what its callee answers.
-- Assumes nothing.
use Rattle.position_numbers.specs.Position.{stepper_in}
use Rattle.position_numbers.proofs.position_in.Goals as goal

pub returns : goal.returns
unfolding stepper_in
returns c = cc
