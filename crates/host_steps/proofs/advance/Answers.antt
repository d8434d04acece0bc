-- `host_steps::advance` meets its contract: the position is put back, or too few samples are put.
-- Assumes nothing.
use native.Mathlib.Omega.{arith}
use Rattle.host_steps.proofs.Handed.{advanced_none, advanced_some}
use Rattle.host_steps.proofs.advance.Goals as goal

pub returns-then-stepper-lt-NUMBERS : goal.returns-then-stepper-lt-NUMBERS
returns-then-stepper-lt-NUMBERS c = absurd (omega (arith, c.if-stepper-lt-NUMBERS.true, c.requires))

pub returns-then-n-least : goal.returns-then-n-least
returns-then-n-least c = advanced_none _ _ _ _ _ _ _ c.position_in-from.ensures c.steps_into-reached.ensures c.if-n-least.true

pub returns : goal.returns
returns c = advanced_some _ _ _ _ _ _ _ c.position_in-from.ensures c.steps_into-reached.ensures _ _ c.requires c.if-n-least.false c.hand_position.ensures
