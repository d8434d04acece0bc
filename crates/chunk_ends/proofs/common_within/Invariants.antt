-- `chunk_ends::common_within` meets its contract: what the chunks ahead of the cursor say is what all say, with the samples that are not yet theirs. A run has at most 2 ^ 32 chunks.
-- Assumes nothing.
use Prim.Native.Nat.{◌≤◌}
use lib.ListN.{length, replicate}
use Rattle.words.specs.Words.{numbers_in, width_of}
use Rattle.chunks.specs.Chunks.{per_chunk, end_within}
use Rattle.chunks.specs.Cursors.{ahead}
use Rattle.chunk_ends.proofs.Ends.{Ending}
use Rattle.chunk_ends.proofs.common_within.Given as goal

abbrev pub invariant-loop-c : goal.invariant-loop-c
invariant-loop-c l =
    Ending l.limit l.stsc l.chunks (numbers_in (width_of l.long) l.t) (replicate l.stock l.each) (end_within l.limit (per_chunk l.stsc l.chunks) (numbers_in (width_of l.long) l.offsets) (replicate l.samples l.each)) l.c
    × (l.c.remaining ≤ 4294967296)

abbrev pub decreases-loop-c : goal.decreases-loop-c
decreases-loop-c l = length (ahead l.stsc l.chunks l.c)
