-- `slip_numbers::check_numbers` meets its contract: the invariant says that what is left to check decides what all of it is.
-- Assumes nothing.
use mathlib.Core.Path.{◌≡◌}
use Prim.Native.Nat.{◌≤◌, ◌-◌}
use Rattle.slip_numbers.specs.Steps.{run, checked_of}
use Rattle.leb128.specs.Reading.{more_of, top_of}
use Rattle.slip_numbers.proofs.check_numbers.Given as goal

abbrev pub invariant-loop : goal.invariant-loop
invariant-loop l =
    (checked_of (run (more_of l.fn.from.wide) (top_of l.fn.from.wide) l.bytes l.c l.fn.from.count 0 l.fn.from.at)
    ≡ checked_of (run (more_of l.cursor.wide) (top_of l.cursor.wide) l.bytes (l.c - l.counter) l.cursor.count l.prev l.cursor.at))
    × (l.cursor.count ≤ l.cursor.at)
