-- `slip_numbers::ends::ends_from` meets its contract: the invariant says that what was found so far holds of the bytes passed.
-- Assumes nothing.
use mathlib.Core.Path.{◌≡◌}
use Prim.Native.Nat.{◌-◌, ◌≤◌}
use lib.ListN.{length}
use Rattle.slip_numbers.specs.Ends.{ends_in, FineIn}
use Rattle.slip_numbers.proofs.ends.ends_from.Given as goal

abbrev pub invariant-loop-at : goal.invariant-loop-at
invariant-loop-at l = (l.from ≤ l.at) × (l.at ≤ length l.bytes) × (l.ends ≡ ends_in l.bytes l.from (l.at - l.from)) × (l.ends ≤ l.at - l.from) × FineIn l.bytes l.from l.at

abbrev pub decreases-loop-at : goal.decreases-loop-at
decreases-loop-at l = length l.bytes - l.at
