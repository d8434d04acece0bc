-- `sync_search::last_upto` meets its contract: each turn is one of the search by halving.
-- Assumes nothing.
use Prim.Native.Nat.{◌-◌, ◌*◌, ◌/◌, ◌≤◌}
use lib.ListN.{length}
use lib.Dec.{leb}
use Rattle.bigendian.specs.BigEndian.{u32_at}
use Rattle.lists.proofs.Halving.{Halves}
use Rattle.sync_search.proofs.last_upto.Given as goal

abbrev pub invariant-loop-high : goal.invariant-loop-high
invariant-loop-high l = (l.low ≤ l.high) × (l.high ≤ length l.part / 4) × Halves (λ i. leb (u32_at l.part (i * 4)) l.x) (length l.part / 4) l.low l.high

abbrev pub decreases-loop-high : goal.decreases-loop-high
decreases-loop-high l = l.high - l.low
