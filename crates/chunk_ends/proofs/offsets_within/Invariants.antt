-- `chunk_ends::offsets_within` meets its contract: what the offsets not yet read say is what all say; past the last an offset is 0 and above nothing.
-- Assumes nothing.
use Prim.Native.Nat.{◌*◌}
use mathlib.Core.Path.{◌≡◌}
use lib.ListN.{length, take}
use Rattle.words.specs.Words.{numbers_in, width_of}
use Rattle.chunk_ends.specs.Ends.{none_above}
use Rattle.chunk_ends.proofs.offsets_within.Given as goal

abbrev pub invariant-loop-t : goal.invariant-loop-t
invariant-loop-t l = (l.step ≡ 2 * width_of l.long) × (none_above l.most (numbers_in (width_of l.long) l.t) ≡ none_above l.most (take l.count (numbers_in (width_of l.long) l.offsets)))

abbrev pub decreases-loop-t : goal.decreases-loop-t
decreases-loop-t l = length l.t
