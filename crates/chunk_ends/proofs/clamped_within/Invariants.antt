-- `chunk_ends::clamped_within` meets its contract: what the chunks not yet asked say is what all say, with the samples that are not yet theirs.
-- Assumes nothing.
use Prim.Native.Nat.{◌-◌}
use mathlib.Core.Path.{◌≡◌}
use lib.ListN.{drop, replicate}
use Rattle.words.specs.Words.{numbers_in, width_of}
use Rattle.chunks.specs.Chunks.{end_within}
use Rattle.chunk_ends.proofs.clamped_within.Given as goal

abbrev pub invariant-loop-i : goal.invariant-loop-i
invariant-loop-i l =
    end_within l.limit (replicate (l.count - l.i) l.per) (drop l.i (numbers_in (width_of l.long) l.offsets)) (replicate l.stock l.each)
    ≡ end_within l.limit (replicate l.count l.per) (numbers_in (width_of l.long) l.offsets) (replicate l.samples l.each)
