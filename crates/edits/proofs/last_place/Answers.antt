-- `edits::last_place` meets its contract: the sum fits, since what is asked is that it does.
-- Assumes nothing.
use native.Mathlib.Omega.{arith}
use Rattle.edits.proofs.last_place.Goals as goal

pub overflow_add-place : goal.overflow_add-place
overflow_add-place c = omega (arith, c.scaled.ensures.0, c.requires.1)

pub overflow_cast-result : goal.overflow_cast-result
overflow_cast-result c = omega (arith, c.scaled.ensures.0, c.requires.1)

pub returns : goal.returns
returns c = omega (arith, c.scaled.ensures.0)
