-- `places::moov::movie_heads` meets its contract, by what the calls ensure.
-- Assumes nothing.
use mathlib.Core.Path.{ap, ◌∙◌}
use Rattle.structure.specs.Profile.{of_version0, profile_in}
use Rattle.structure.specs.Movie.{movie_profile}
use Rattle.places.proofs.moov.movie_heads.Goals as goal

pub find_movie_heads-found-requires : goal.find_movie_heads-found-requires
find_movie_heads-found-requires c = tt

pub of_version_0-profile-requires : goal.of_version_0-profile-requires
of_version_0-profile-requires c = tt

pub returns : goal.returns
unfolding movie_profile profile_in
returns c = record { mvhd = c.find_movie_heads-found.ensures.mvhd; profile = c.of_version_0-profile.ensures ∙ ap of_version0 c.find_movie_heads-found.ensures.profile }
