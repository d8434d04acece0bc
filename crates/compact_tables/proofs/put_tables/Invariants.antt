-- `compact_tables::put_tables` meets its contract: at each turn the rest of the body gives what is still to be written, the free atom last.
-- Assumes nothing.
use mathlib.Core.Path.{◌≡◌}
use mathlib.Core.List.{◌++◌}
use Prim.Native.Nat.{◌+◌, ◌-◌, ◌≤◌}
use lib.ListN.{length}
use lib.Seq.{sets}
use Rattle.compact_tables.specs.Tables.{free_atom, compact_tables}
use Rattle.byte_writing.proofs.Writing.{Storing}
use Rattle.compact_tables.proofs.Tables.{tables_rest}
use Rattle.compact_tables.proofs.put_tables.Given as goal

abbrev pub invariant-loop-t : goal.invariant-loop-t
invariant-loop-t l =
    Storing (sets l.initial.out l.at (compact_tables l.body)) l.initial.out (l.at + length (compact_tables l.body)) l.out l.k (tables_rest l.t ++ free_atom (length l.body - length (tables_rest l.body)))
    × (l.k + length (tables_rest l.t) ≡ l.at + length (tables_rest l.body))
    × (length l.t ≤ length l.body)

abbrev pub decreases-loop-t : goal.decreases-loop-t
decreases-loop-t l = length l.t
