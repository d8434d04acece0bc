-- `host_steps::hand_sample_steps` meets its contract: too few numbers or places, or the samples put and the position past them.
-- Assumes nothing.
use mathlib.Core.Path.{refl}
use mathlib.Core.Logic.{inl, inr}
use Rattle.host_steps.proofs.Handed.{short_steps, filled_steps}
use Rattle.host_steps.proofs.hand_sample_steps.Goals as goal

pub returns-then-stepper-lt-NUMBERS : goal.returns-then-stepper-lt-NUMBERS
returns-then-stepper-lt-NUMBERS c = short_steps _ _ _ _ (inl c.if-stepper-lt-NUMBERS.true)

pub returns-then-places-lt1 : goal.returns-then-places-lt1
returns-then-places-lt1 c = short_steps _ _ _ _ (inr c.if-places-lt1.true)

pub returns : goal.returns
returns c = filled_steps _ _ _ _ _ _ _ _ c.advance-n.ensures c.if-stepper-lt-NUMBERS.false c.if-places-lt1.false refl
