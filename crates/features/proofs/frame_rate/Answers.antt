-- `features::frame_rate` meets its contract.
-- Assumes nothing.
use mathlib.Core.Path.{◌∙◌}
use Rattle.features.proofs.Fields.{frames_are}
use Rattle.features.proofs.frame_rate.Goals as goal

pub part_of-requires : goal.part_of-requires
part_of-requires c = tt

pub least_duration-least-requires : goal.least_duration-least-requires
least_duration-least-requires c = tt

pub scale_in-requires : goal.scale_in-requires
scale_in-requires c = c.requires

pub rate-requires : goal.rate-requires
rate-requires c = tt

pub returns : goal.returns
returns c = frames_are _ _ _ _ _ (c.part_of.ensures ∙ c.requires.stts) c.least_duration-least.ensures c.scale_in.ensures c.rate.ensures
