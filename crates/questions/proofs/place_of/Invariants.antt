-- `questions::place_of` meets its contract. The loop's invariant: no track before the place has the ID.
-- Assumes nothing.
use Prim.Native.Nat.{◌-◌, ◌≤◌}
use Rattle.structure.specs.Movie.{moov_of, tracks_of}
use Rattle.questions.proofs.Standing.{NotBefore}
use Rattle.questions.proofs.place_of.Given as goal

abbrev pub invariant-loop-i : goal.invariant-loop-i
invariant-loop-i l = (l.i ≤ l.count) × NotBefore l.id (tracks_of (moov_of l.lent)) l.i

abbrev pub decreases-loop-i : goal.decreases-loop-i
decreases-loop-i l = l.count - l.i
