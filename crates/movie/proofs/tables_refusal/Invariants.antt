-- `movie::tables_refusal` meets its contract; the loop's invariant: the earlier of what was found and of the tracks from i on is the refusal.
-- Assumes nothing.
use Prim.Native.Nat.{◌-◌, ◌≤◌}
use mathlib.Core.Path.{◌≡◌}
use lib.ListN.{drop}
use Rattle.refusals.specs.Refusals.{code}
use Rattle.structure.specs.ByTracks.{earlier_of, of_tracks}
use Rattle.structure.specs.Movie.{moov_of, tracks_of}
use Rattle.movie.specs.TableRows.{table_rows, tables_refusal}
use Rattle.movie.proofs.tables_refusal.Given as goal

abbrev pub invariant-loop-i : goal.invariant-loop-i
invariant-loop-i l = (l.i ≤ l.count) × (earlier_of (code l.found) (of_tracks (table_rows l.source l.scale l.len) (drop l.i (tracks_of (moov_of l.lent)))) ≡ tables_refusal l.source l.len (moov_of l.lent))

abbrev pub decreases-loop-i : goal.decreases-loop-i
decreases-loop-i l = l.count - l.i
