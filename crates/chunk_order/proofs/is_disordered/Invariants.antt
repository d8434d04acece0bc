-- `chunk_order::is_disordered` meets its contract: what the chunks ahead of the cursor say after the last one is what all say.
-- Assumes nothing.
use lib.ListN.{length}
use Rattle.bigendian.specs.BigEndian.{u32_at}
use Rattle.words.specs.Words.{numbers_in, width_of, sizes, chunk_offsets}
use Rattle.chunks.specs.Chunks.{per_chunk}
use Rattle.chunks.specs.Cursors.{ahead}
use Rattle.chunk_order.specs.Order.{in_order, extents}
use Rattle.chunk_order.proofs.Orders.{Ordering}
use Rattle.chunk_order.proofs.is_disordered.Given as goal

abbrev pub invariant-loop-c : goal.invariant-loop-c
invariant-loop-c l = Ordering l.stsc l.chunks (numbers_in (width_of l.long) l.t) (sizes l.stsz) l.from l.first l.offset l.bytes (in_order (extents (per_chunk l.stsc (u32_at l.offsets 12)) (chunk_offsets l.offsets) (sizes l.stsz))) l.c

abbrev pub decreases-loop-c : goal.decreases-loop-c
decreases-loop-c l = length (ahead l.stsc l.chunks l.c)
