-- What is asked of a track before its rules are judged, and the last rules by themselves. These need not be believed: they are
-- between the crates' own functions.
use Rattle.std.specs.Prelude.{ℕ, ◌<◌, ◌^◌, ◌≡◌, true, cond, List}
use Rattle.atoms.specs.Kinds.{stss, stsc}
use Rattle.lists.specs.Lists.{sum}
use Rattle.structure.specs.Track.{table_of, samples_of, chunks_of}
use Rattle.words.specs.Words.{syncs_agree}
use Rattle.chunks.specs.Chunks.{per_chunk}
use Rattle.features.specs.Features.{Computable, Averaged}
use Rattle.quay_tracks.specs.Profile.{zero_size, zero_duration, chunks_disordered, too_many_frames}

-- an accepted track has it
pub record Judgeable (movie : ℕ) (t : List ℕ) : Type 0 where
  pub syncs : syncs_agree (table_of stss t) (samples_of t) ≡ true
  pub dealt : sum (per_chunk (table_of stsc t) (chunks_of t)) < 2 ^ 32
  pub computable : Computable t
  pub averaged : Averaged movie t

-- the lowest of the rules from the sixth on that a track breaks; 0 for none
abbrev pub from_sixth : ℕ → List ℕ → ℕ
from_sixth movie t = cond (zero_size t) 6 (cond (zero_duration t) 7 (cond (chunks_disordered t) 8 (cond (too_many_frames movie t) 9 0)))
