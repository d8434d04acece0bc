-- `movie::tracks::ids_repeat` meets its contract. The loop's invariant: what the rest says, with the IDs kept, is what the whole says.
-- Assumes nothing.
use Prim.Native.Nat.{◌-◌, ◌≤◌}
use mathlib.Core.Path.{◌≡◌}
use mathlib.Core.List.{map}
use lib.ListN.{length, take, drop}
use Rattle.structure.specs.Track.{id_of}
use Rattle.structure.specs.Movie.{moov_of, tracks_of}
use Rattle.movie.specs.Tracks.{ids_of, repeats}
use Rattle.movie.proofs.Repeats.{again}
use Rattle.movie.proofs.tracks.ids_repeat.Given as goal

abbrev pub invariant-loop-i : goal.invariant-loop-i
invariant-loop-i l = (length l.ids ≡ 16) × (l.i ≤ l.count) × (again (take l.i l.ids) (map id_of (drop l.i (tracks_of (moov_of l.lent)))) ≡ repeats (ids_of (moov_of l.lent)))

abbrev pub decreases-loop-i : goal.decreases-loop-i
decreases-loop-i l = l.count - l.i
