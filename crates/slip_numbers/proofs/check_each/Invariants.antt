-- `slip_numbers::check_each` meets its contract: the invariant says that what is left to check, past the head, decides what all of it is.
-- Assumes nothing.
use mathlib.Core.Path.{◌≡◌}
use Prim.Native.Nat.{ℕ, ◌-◌, ◌≤◌}
use Rattle.leb128.specs.Reading.{more_of, top_of}
use Rattle.slip_numbers.specs.Steps.{run, checked_of}
use Rattle.slip_numbers.proofs.check_each.Given as goal

abbrev pub invariant-loop : goal.invariant-loop
invariant-loop l =
    (i : ℕ)
    × (prev : ℕ)
    × (6 ≤ i)
    × (checked_of (run (more_of l.wide) (top_of l.wide) l.bytes l.c 6 0 l.from) ≡ checked_of (run (more_of l.wide) (top_of l.wide) l.bytes (l.c - l.counter) i prev l.at))
