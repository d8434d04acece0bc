-- `profiles::kept_count` meets its contract; the loop's invariant: the records counted and those of the rest are all of them.
-- Assumes nothing.
use Prim.Native.Nat.{◌+◌, ◌≤◌}
use mathlib.Core.Path.{◌≡◌}
use lib.ListN.{length}
use Rattle.profiles.specs.Profiles.{kept_in, kept_of}
use Rattle.profiles.proofs.kept_count.Given as goal

abbrev pub invariant-loop-t : goal.invariant-loop-t
invariant-loop-t l = (l.n + length l.t ≤ length l.profile) × (l.n + length (kept_in l.t) ≡ length (kept_of l.profile))

abbrev pub decreases-loop-t : goal.decreases-loop-t
decreases-loop-t l = length l.t
