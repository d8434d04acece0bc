-- `chunk_ends::listed_within` meets its contract: what the chunks ahead of the cursor say is what all say; there are below 2 ^ 63 of them.
-- Assumes nothing.
use Prim.Native.Nat.{◌+◌, ◌^◌, ◌<◌}
use lib.ListN.{length, drop}
use Rattle.words.specs.Words.{numbers_in, words_in, width_of}
use Rattle.chunks.specs.Chunks.{per_chunk, end_within}
use Rattle.chunks.specs.Cursors.{ahead}
use Rattle.chunk_ends.proofs.Ends.{Ending}
use Rattle.chunk_ends.proofs.listed_within.Given as goal

abbrev pub invariant-loop-c : goal.invariant-loop-c
invariant-loop-c l =
    Ending l.limit l.stsc l.chunks (drop l.index (numbers_in (width_of l.long) l.offsets)) (words_in l.z) (end_within l.limit (per_chunk l.stsc l.chunks) (numbers_in (width_of l.long) l.offsets) (words_in l.sizes)) l.c
    × (l.index + length (ahead l.stsc l.chunks l.c) < 2 ^ 63)

abbrev pub decreases-loop-c : goal.decreases-loop-c
decreases-loop-c l = length (ahead l.stsc l.chunks l.c)
