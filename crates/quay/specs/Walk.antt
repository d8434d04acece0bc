-- The walk over the tracks. These need not be believed: they are between the crate's own functions.
use Rattle.std.specs.Prelude.{ℕ, ◌<◌, ◌≡◌, List, [], length, get_or}
use Rattle.structure.specs.ByTracks.{of_tracks}
use Rattle.quay_tracks.specs.Profile.{quay_rules}
use Rattle.quay_tracks.specs.Judged.{Judgeable}
use Rattle.quay.specs.Quay.{first_breaking}
use Rattle.quay.specs.declared.Broken.{Broken}

-- what is asked of each track; an accepted one has it
abbrev pub AllJudgeable : ℕ → List (List ℕ) → Type 0
AllJudgeable movie ts = (i : ℕ) → i < length ts → Judgeable movie (get_or ts i [])

-- the lowest rule that one of some tracks breaks, and the ID of the first of them that breaks it
pub record IsBroken (movie : ℕ) (ts : List (List ℕ)) (r : Broken) : Type 0 where
  pub rule : r.rule ≡ of_tracks (quay_rules movie) ts
  pub id : r.id ≡ first_breaking (quay_rules movie) (of_tracks (quay_rules movie) ts) ts
