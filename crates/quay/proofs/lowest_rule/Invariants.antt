-- `quay::lowest_rule` meets its contract. The loop's invariant: the tracks from i on say, beside what was found, what all say.
-- Assumes nothing.
use Prim.Native.Nat.{◌-◌, ◌≤◌}
use Rattle.structure.specs.Movie.{moov_of, tracks_of}
use Rattle.quay_tracks.specs.Profile.{quay_rules}
use Rattle.quay.proofs.Lowest.{Lowering}
use Rattle.quay.proofs.lowest_rule.Given as goal

abbrev pub invariant-loop-i : goal.invariant-loop-i
invariant-loop-i l = (l.i ≤ l.count) × Lowering (quay_rules l.movie) (tracks_of (moov_of l.lent)) l.rule l.id l.i

abbrev pub decreases-loop-i : goal.decreases-loop-i
decreases-loop-i l = l.count - l.i
