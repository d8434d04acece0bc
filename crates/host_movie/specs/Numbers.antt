-- The numbers of the movie's header and of a track's edit list: the refusal, 0 for none, and the values, zeros with a refusal.
use Rattle.std.specs.Prelude.{ℕ, List, ℤ}
use Rattle.structure.specs.declared.source.Source.{Source}
use Rattle.movie_times.specs.Header.{movie_answer, movie_numbers}
use Rattle.movie_times.specs.Entries.{edits_answer, edits_numbers}

-- the movie's time scale and stored duration
abbrev pub of_movie : List ℕ → Source → List ℕ
of_movie s w = movie_numbers (movie_answer s w)

-- the number of entries
abbrev pub of_edits : List ℕ → Source → ℕ → List ℤ → List ℕ
of_edits s w id room = edits_numbers (edits_answer s w id room)
