-- The tracks of a film, added one after the other. This need not be believed: it is between the crate's own functions.
use Rattle.std.specs.Prelude.{ℕ, ◌<◌, ◌^◌, List, map, length}
use Rattle.structure.specs.Movie.{moov_of, tracks_of}
use Rattle.places.specs.declared.moov.Traks.{Traks}
use Rattle.movie.specs.Traks.{FewTraks}
use Rattle.track_list.specs.Lines.{TotalsFit}
use Rattle.return_totals.specs.Returns.{with_tracks}
use Rattle.return_totals.specs.Following.{Adds}
use Rattle.return_totals.specs.declared.Filed.{Filed}
use Rattle.film_return.specs.Films.{totals_of}

-- what the code asks of a film before it adds its tracks: each total fits 32 bits, and the film is so short that all sizes of a track can be added
abbrev pub Addable : List ℕ → Traks → Type 0
Addable s r = FewTraks s (tracks_of (moov_of s)) r × TotalsFit (tracks_of (moov_of s)) × (length s < 2 ^ 32)

abbrev pub AddsTracks : Filed → List (List ℕ) → Filed → Type 0
AddsTracks f ts g = Adds (with_tracks (map totals_of ts)) f g
