-- `format_checks::is_missing` meets its contract, by what the calls ensure.
-- Assumes nothing.
use mathlib.Core.Path.{◌∙◌}
use Rattle.format_checks.proofs.Tracks.{missing_is}
use Rattle.format_checks.proofs.is_missing.Goals as goal

pub returns : goal.returns
returns c =
    let a = c.requires in
    missing_is _ _ c.subtype_in-subtype.ensures _ _ _ _ (c.part_of.ensures ∙ a.profile) (c.part_of-2.ensures ∙ a.stsd) c.least_size-least.ensures c.lacks_one.ensures
