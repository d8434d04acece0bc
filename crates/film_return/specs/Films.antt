-- The film return: what a film adds to it. Document 02: "totals over many movies: files accepted, files refused under each number, tracks, samples,
-- film bytes (all sizes) and, for each media time scale met, its tracks' totals added."
use Rattle.std.specs.Prelude.{ℕ, ◌≡◌, cond, List, map, eqb}
use Rattle.atoms.specs.Kinds.{stsz}
use Rattle.lists.specs.Lists.{sum}
use Rattle.structure.specs.declared.source.Source.{Source}
use Rattle.structure.specs.Track.{scale_of, table_of, samples_of}
use Rattle.structure.specs.Movie.{moov_of, tracks_of}
use Rattle.words.specs.Words.{sizes}
use Rattle.track.specs.Refusals.{total_in}
use Rattle.movie.specs.Refusals.{film_refusal}
use Rattle.return_totals.specs.Returns.{Return, with_tracks, with_accepted, with_refused, limit_refusal, limited, return_of, KeepsRest}
use Rattle.return_totals.specs.declared.FilmReturn.{FilmReturn}
use Rattle.return_totals.specs.declared.TrackTotals.{TrackTotals}
use Rattle.return_totals.specs.declared.Filed.{Filed}

-- what is counted of a track, from the body of its trak
unfoldable pub totals_of : List ℕ → TrackTotals
totals_of t = record { scale = scale_of t; total = total_in t; samples = samples_of t; bytes = sum (sizes (table_of stsz t)) }

-- the return with the whole of a film in it, without a limit: one accepted with each of its tracks, or one refused under its number
unfoldable pub with_film : List ℕ → Source → Return → Return
with_film s w r =
    cond (eqb (film_refusal s w) 0) (with_tracks (map totals_of (tracks_of (moov_of s))) (with_accepted r)) (with_refused (film_refusal s w) r)

-- "Refusals: 20 for a thirty-third scale, then 21 for a total that would reach 2^64"; 0 for a film that is counted, be it accepted or refused
unfoldable pub filed_refusal : Return → List ℕ → Source → ℕ
filed_refusal r s w = limit_refusal (with_film s w r)

-- "either leaves the return without any of that file"
unfoldable pub filed_return : Return → List ℕ → Source → Return
filed_return r s w = limited r (with_film s w r)

-- the promise of `add_film`, of any state of the return
pub record Files (r : FilmReturn) (s : List ℕ) (w : Source) (f : Filed) : Type 0 where
  pub refusal : f.refusal ≡ filed_refusal (return_of r) s w
  pub totals : return_of f.totals ≡ filed_return (return_of r) s w
  pub rest : KeepsRest r f.totals
  pub left : (f.refusal ≡ 0 → ⊥) → f.totals ≡ r
