-- `host_top_level::hand_step` meets its contract: case by case of the step's answer.
-- Assumes nothing.
use mathlib.Core.Path.{ap, ◌∙◌}
use Rattle.top_level.specs.Steps.{stepped}
use Rattle.hand.proofs.Answered.{handed, of_case}
use Rattle.host_top_level.specs.Numbers.{next_numbers}
use Rattle.host_top_level.proofs.hand_step.Goals as goal

pub returns-in-Read : goal.returns-in-Read
unfolding next_numbers
returns-in-Read c =
    handed _ _ _ _ _ _ (of_case next_numbers (c.step.ensures ∙ ap (stepped _) c.walk_in-walk.ensures) c.in-Read.is)
    c.hand.ensures

pub returns-in-Found : goal.returns-in-Found
unfolding next_numbers
returns-in-Found c =
    handed _ _ _ _ _ _ (of_case next_numbers (c.step.ensures ∙ ap (stepped _) c.walk_in-walk.ensures) c.in-Found.is)
    c.hand-in-Found.ensures

pub returns-in-Refused : goal.returns-in-Refused
unfolding next_numbers
returns-in-Refused c =
    handed _ _ _ _ _ _ (of_case next_numbers (c.step.ensures ∙ ap (stepped _) c.walk_in-walk.ensures) c.in-Refused.is)
    c.hand-in-Refused.ensures
