-- `chunks::ready` meets its contract: a cursor past an entry of no chunks is readied to the same one.
-- Assumes nothing.
use Prim.Native.Nat.{◌-◌, ◌≤◌}
use mathlib.Core.Path.{◌≡◌}
use lib.ListN.{length}
use Rattle.chunks.specs.Cursors.{readied}
use Rattle.chunks.proofs.ready.Given as goal

abbrev pub invariant-loop-r : goal.invariant-loop-r
invariant-loop-r l = (readied l.stsc l.chunks l.r ≡ readied l.stsc l.chunks l.initial.r) × (l.initial.r.remaining ≤ 4294967296 → l.r.remaining ≤ 4294967296)

abbrev pub decreases-loop-r : goal.decreases-loop-r
decreases-loop-r l = length l.stsc - l.r.at
