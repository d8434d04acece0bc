-- `movie_times::entries::put_edits` meets its contract; the loop's invariant: the entries of the rest, stored from `at` on, make what all of them make.
-- Assumes nothing.
use Prim.Native.Nat.{◌+◌, ◌*◌, ◌≤◌}
use mathlib.Core.Path.{◌≡◌}
use lib.ListN.{length}
use lib.Seq.{sets}
use Rattle.edits.specs.Edits.{edits_in}
use Rattle.movie_times.specs.Entries.{edit_numbers}
use Rattle.movie_times.proofs.entries.put_edits.Given as goal

abbrev pub invariant-loop-t : goal.invariant-loop-t
invariant-loop-t l =
    (l.at + 3 * length (edits_in l.t) ≤ length l.room)
    × (length l.room ≡ length l.initial.room)
    × (sets l.room l.at (edit_numbers (edits_in l.t)) ≡ sets l.initial.room 0 (edit_numbers (edits_in l.part)))

abbrev pub decreases-loop-t : goal.decreases-loop-t
decreases-loop-t l = length l.t
