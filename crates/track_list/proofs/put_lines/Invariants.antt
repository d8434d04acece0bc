-- `track_list::put_lines` meets its contract. The loop's invariant: the lines of the tracks from i on, put after those before them, are all that is put.
-- Assumes nothing.
use Prim.Native.Nat.{◌+◌, ◌*◌, ◌-◌, ◌≤◌}
use mathlib.Core.Path.{◌≡◌}
use lib.ListN.{length, drop}
use lib.Seq.{sets}
use Rattle.structure.specs.Movie.{moov_of, tracks_of}
use Rattle.track_list.specs.TrackList.{lines_of}
use Rattle.track_list.specs.Lines.{TotalsFit}
use Rattle.track_list.proofs.put_lines.Given as goal

abbrev pub invariant-loop-i : goal.invariant-loop-i
invariant-loop-i l =
    (l.i ≤ l.count)
    × TotalsFit (drop l.i (tracks_of (moov_of l.lent)))
    × (l.i * 8 + 8 * length (drop l.i (tracks_of (moov_of l.lent))) ≤ length l.room)
    × (length l.room ≡ length l.initial.room)
    × (sets l.room (l.i * 8) (lines_of (drop l.i (tracks_of (moov_of l.lent)))) ≡ sets l.initial.room 0 (lines_of (tracks_of (moov_of l.lent))))

abbrev pub decreases-loop-i : goal.decreases-loop-i
decreases-loop-i l = l.count - l.i
