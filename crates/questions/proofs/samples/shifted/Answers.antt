-- `questions::samples::shifted` meets its contract: both parts are of 32 bits, so that the sum fits.
-- Assumes nothing.
use native.Mathlib.Omega.{arith}
use Rattle.questions.proofs.Shift.{narrow_fits, sum_fits, sum_is}
use Rattle.questions.proofs.samples.shifted.Goals as goal

pub overflow_cast-result : goal.overflow_cast-result
overflow_cast-result c = record { sfits = omega (arith, c.well_formed) }

pub overflow_cast-result-2 : goal.overflow_cast-result-2
overflow_cast-result-2 c = narrow_fits c.args.offset (omega (arith, c.well_formed))

pub overflow_add-result : goal.overflow_add-result
overflow_add-result c = sum_fits c.args.decode c.args.offset (omega (arith, c.well_formed)) (omega (arith, c.well_formed))

pub returns : goal.returns
returns c = sum_is c.args.decode c.args.offset (omega (arith, c.well_formed)) (omega (arith, c.well_formed))
