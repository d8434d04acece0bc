-- The traks of a movie, and its header and profile, as parts of what is lent.
use Rattle.std.specs.Prelude.{ℕ, ◌+◌, ◌≤◌, ◌<◌, ◌≡◌, cond, List, [], length, get_or, set, replicate, leb}
use Rattle.atoms.specs.Kinds as kinds
use Rattle.atoms.specs.Atoms.{atoms, child_in}
use Rattle.structure.specs.Profile.{first_before}
use Rattle.structure.specs.Movie.{movie_profile, tracks_of}
use Rattle.places.specs.Places.{part_in, IsTrak, no_trak}
use Rattle.places.specs.declared.trak.Trak.{Trak}
use Rattle.places.specs.declared.moov.MovieHeads.{MovieHeads}
use Rattle.places.specs.declared.moov.Traks.{Traks}
use Rattle.places.specs.declared.moov.Movie.{Movie}

-- the traks are those with the bodies ts, as far as there is room for them
pub record AreTraks (s : List ℕ) (ts : List (List ℕ)) (r : Traks) : Type 0 where
  pub few : r.count ≤ 16 → r.count ≡ length ts
  pub many : 16 < r.count → 16 < length ts
  pub each : (i : ℕ) → i < 16 → i < length ts → IsTrak s (get_or ts i []) (get_or r.of i no_trak)

-- the header and the profile of the movie with the body m of its moov
pub record AreMovieHeads (s m : List ℕ) (r : MovieHeads) : Type 0 where
  pub mvhd : part_in s r.mvhd ≡ child_in kinds.moov kinds.mvhd 0 m
  pub profile : part_in s r.profile ≡ movie_profile m

-- that movie
pub record IsMovie (s m : List ℕ) (r : Movie) : Type 0 where
  pub heads : AreMovieHeads s m r.heads
  pub traks : AreTraks s (tracks_of m) r.traks

-- ---- between the crate's own functions

-- the first prfl before the header, whatever its version
pub record FindsMovieHeads (s m : List ℕ) (r : MovieHeads) : Type 0 where
  pub mvhd : part_in s r.mvhd ≡ child_in kinds.moov kinds.mvhd 0 m
  pub profile : part_in s r.profile ≡ first_before kinds.mvhd (atoms kinds.moov m)

abbrev pub no_traks : Traks
no_traks = record { count = 0; of = replicate 16 no_trak }

abbrev pub with_trak : Traks → Trak → Traks
with_trak f x =
    cond (leb 16 f.count) (record { count = 17; of = f.of }) (record { count = f.count + 1; of = set f.of f.count x })
