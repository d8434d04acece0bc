-- `host_steps::hand_sample_step` meets its contract: too few numbers or places; done; or the sample put and the position past it.
-- Assumes nothing.
use mathlib.Core.Logic.{inl, inr}
use native.Mathlib.Omega.{arith}
use Rattle.host_steps.proofs.Handed.{short_step, step_done, step_next}
use Rattle.host_steps.proofs.hand_sample_step.Goals as goal

pub returns-then-stepper-lt-NUMBERS : goal.returns-then-stepper-lt-NUMBERS
returns-then-stepper-lt-NUMBERS c = short_step _ _ _ (inl c.if-stepper-lt-NUMBERS.true)

pub returns-then-places-le-SAMPLE : goal.returns-then-places-le-SAMPLE
returns-then-places-le-SAMPLE c = short_step _ _ _ (inr (omega (arith, c.if-places-le-SAMPLE.true)))

pub returns-then-n-eq0 : goal.returns-then-n-eq0
returns-then-n-eq0 c = step_done _ _ _ _ _ _ c.advance-n.ensures c.if-stepper-lt-NUMBERS.false (omega (arith, c.if-places-le-SAMPLE.false)) _ _ c.if-n-eq0.true c.hand.ensures

pub returns : goal.returns
returns c = step_next _ _ _ _ _ _ c.advance-n.ensures c.if-stepper-lt-NUMBERS.false (omega (arith, c.if-places-le-SAMPLE.false)) c.if-n-eq0.false
