-- `chunks::seek` meets its contract: where the sample falls among the chunks ahead of the cursor says where it falls among all. A run has at most 2 ^ 32
-- chunks, and there are few enough in all to count them.
-- Assumes nothing.
use Prim.Native.Nat.{◌≤◌}
use lib.ListN.{length}
use Rattle.chunks.specs.Cursors.{ahead}
use Rattle.chunks.proofs.Finding.{Seeking}
use Rattle.chunks.proofs.seek.Given as goal

abbrev pub invariant-loop-c : goal.invariant-loop-c
invariant-loop-c l = Seeking l.stsc l.chunks l.index l.c l.passed l.rest × (l.c.remaining ≤ 4294967296)

abbrev pub decreases-loop-c : goal.decreases-loop-c
decreases-loop-c l = length (ahead l.stsc l.chunks l.c)
