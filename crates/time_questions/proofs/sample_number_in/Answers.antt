-- `time_questions::sample_number_in` meets its contract: each way out is one of the definition's.
-- Assumes nothing.
use mathlib.Core.Path.{refl}
use native.Mathlib.Omega.{arith}
use Rattle.time_questions.proofs.Mapping.{number_long, number_outside, number_past, number_found}
use Rattle.time_questions.proofs.sample_number_in.Goals as goal

pub returns-then-stts-gt4294967295 : goal.returns-then-stts-gt4294967295
returns-then-stts-gt4294967295 c = number_long _ _ _ c.if-stts-gt4294967295.true

pub look_up-requires : goal.look_up-requires
look_up-requires c = omega (arith, c.if-stts-gt4294967295.false)

pub returns-then-samples-hit : goal.returns-then-samples-hit
returns-then-samples-hit c = number_past _ _ _ c.if-stts-gt4294967295.false _ c.look_up.ensures _ c.in-Some.is c.if-samples-hit.true

pub overflow_add-result : goal.overflow_add-result
overflow_add-result c = record { fits = omega (arith, c.if-samples-hit.false, c.well_formed) }

pub overflow_cast-result : goal.overflow_cast-result
overflow_cast-result c = omega (arith, c.if-samples-hit.false, c.well_formed)

pub returns-else-samples-hit : goal.returns-else-samples-hit
returns-else-samples-hit c = number_found _ _ _ c.if-stts-gt4294967295.false _ c.look_up.ensures _ c.in-Some.is c.if-samples-hit.false _ refl

pub returns-in-None : goal.returns-in-None
returns-in-None c = number_outside _ _ _ c.if-stts-gt4294967295.false _ c.look_up.ensures c.in-None.is
