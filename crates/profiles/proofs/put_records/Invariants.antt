-- `profiles::put_records` meets its contract; the loop's invariant: the records of the rest, stored from `at` on, make what all of them make.
-- Assumes nothing.
use Prim.Native.Nat.{◌+◌, ◌*◌, ◌≤◌}
use mathlib.Core.Path.{◌≡◌}
use lib.ListN.{length}
use lib.Seq.{sets}
use Rattle.profiles.specs.Profiles.{record_numbers, kept_in, kept_of}
use Rattle.profiles.proofs.put_records.Given as goal

abbrev pub invariant-loop-t : goal.invariant-loop-t
invariant-loop-t l =
    (l.at + 3 * length (kept_in l.t) ≤ length l.room)
    × (length l.room ≡ length l.initial.room)
    × (sets l.room l.at (record_numbers (kept_in l.t)) ≡ sets l.initial.room 0 (record_numbers (kept_of l.profile)))

abbrev pub decreases-loop-t : goal.decreases-loop-t
decreases-loop-t l = length l.t
