-- The traks of a movie that has no more than 16. This need not be believed: it is between the crates' own functions.
use Rattle.std.specs.Prelude.{ℕ, ◌≤◌, ◌<◌, ◌≡◌, List, [], length, get_or}
use Rattle.places.specs.Places.{IsTrak, no_trak}
use Rattle.places.specs.declared.moov.Traks.{Traks}

-- they are those with the bodies ts
pub record FewTraks (s : List ℕ) (ts : List (List ℕ)) (r : Traks) : Type 0 where
  pub few : length ts ≤ 16
  pub count : r.count ≡ length ts
  pub each : (i : ℕ) → i < length ts → IsTrak s (get_or ts i []) (get_or r.of i no_trak)
