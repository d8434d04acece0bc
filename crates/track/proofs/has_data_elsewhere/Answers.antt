-- `track::has_data_elsewhere` meets its contract, by what the calls ensure.
-- Assumes nothing.
use mathlib.Core.Path.{◌∙◌, ap}
use Rattle.track.specs.Track.{least_size}
use Rattle.track.proofs.Rows.{elsewhere_by}
use Rattle.track.proofs.has_data_elsewhere.Goals as goal

pub subtype_in-requires : goal.subtype_in-requires
subtype_in-requires c = c.requires

pub least_size-least-requires : goal.least_size-least-requires
least_size-least-requires c = tt

pub part_of-dref-requires : goal.part_of-dref-requires
part_of-dref-requires c = tt

pub part_of-requires : goal.part_of-requires
part_of-requires c = tt

pub all_in_this_file-requires : goal.all_in_this_file-requires
all_in_this_file-requires c = tt

pub returns : goal.returns
returns c =
    let h = c.requires in
    elsewhere_by _ _ _ _ _ (c.part_of-dref.ensures ∙ h.dref) (c.part_of.ensures ∙ h.stsd) (c.least_size-least.ensures ∙ ap least_size c.subtype_in.ensures)
    c.all_in_this_file.ensures
