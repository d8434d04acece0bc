-- `shape::track_refusal` meets its contract: the tests that led to a return say which rows do not hold.
-- Assumes nothing.
use mathlib.Core.Path.{◌∙◌}
use Rattle.structure.specs.Rows.{first}
use Rattle.shape.specs.MovieRows.{movie_rows}
use Rattle.shape.proofs.track_refusal.Goals as goal

pub part_of-profile-requires : goal.part_of-profile-requires
part_of-profile-requires c = tt

pub is_wrong_track_size-requires : goal.is_wrong_track_size-requires
is_wrong_track_size-requires c = let h = c.requires in (h, c.part_of-profile.ensures ∙ h.profile)

pub returns-then-is_wrong_track_size : goal.returns-then-is_wrong_track_size
unfolding movie_rows first
returns-then-is_wrong_track_size c = simp (← c.is_wrong_track_size.ensures, c.if-is_wrong_track_size.true)

pub is_over_limits-requires : goal.is_over_limits-requires
is_over_limits-requires c =
    let h = c.requires in
    (h, c.part_of-profile.ensures ∙ h.profile)

pub returns-then-is_over_limits : goal.returns-then-is_over_limits
unfolding movie_rows first
returns-then-is_over_limits c = simp (← c.is_wrong_track_size.ensures, c.if-is_wrong_track_size.false, ← c.is_over_limits.ensures, c.if-is_over_limits.true)

pub returns : goal.returns
unfolding movie_rows first
returns c = simp (← c.is_wrong_track_size.ensures, c.if-is_wrong_track_size.false, ← c.is_over_limits.ensures, c.if-is_over_limits.false)
