-- `slip_numbers::ends::few_ends` meets its contract: the invariant says what both counts say of the bytes passed.
-- Assumes nothing.
use mathlib.Core.Path.{◌≡◌}
use Prim.Native.Nat.{◌-◌, ◌≤◌}
use Rattle.slip_numbers.specs.Ends.{ends_in, FineIn}
use Rattle.slip_numbers.proofs.ends.few_ends.Given as goal

abbrev pub invariant-loop-at : goal.invariant-loop-at
invariant-loop-at l = (l.ends ≡ ends_in l.bytes l.from (l.at - l.from)) × (l.ends ≤ l.at - l.from) × (l.faults ≤ l.at - l.from) × (l.faults ≡ 0 → FineIn l.bytes l.from l.at)
