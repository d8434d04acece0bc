-- `checkpoints::last_upto` meets its contract: each turn is one of the search by halving.
-- Assumes nothing.
use Rattle.std.proofs.Common.{◌+◌, ◌-◌, ◌*◌, ◌≤◌, leb, get_or}
use Rattle.lists.proofs.Halving.{Halves}
use Rattle.checkpoints.proofs.last_upto.Given as goal

abbrev pub invariant-loop-high : goal.invariant-loop-high
invariant-loop-high l = (l.low ≤ l.high) × (l.high ≤ l.count) × Halves (λ i. leb (get_or l.points (2 * i + l.field) 0) l.x) l.count l.low l.high

abbrev pub decreases-loop-high : goal.decreases-loop-high
decreases-loop-high l = l.high - l.low
