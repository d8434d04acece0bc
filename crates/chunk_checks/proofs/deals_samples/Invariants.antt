-- `chunk_checks::deals_samples` meets its contract: whether the entries not yet read are right and deal what is left decides whether all are and do.
-- Assumes nothing.
use Prim.Native.Nat.{◌+◌, ◌≤◌}
use mathlib.Core.Path.{◌≡◌}
use lib.ListN.{length}
use Rattle.lists.specs.Lists.{sum}
use Rattle.chunks.specs.Chunks.{deals_in, first_of, dealt, per_chunk}
use Rattle.chunks.specs.Computed.{dealing, deals_agree}
use Rattle.chunk_checks.proofs.deals_samples.Given as goal

abbrev pub invariant-loop-ahead : goal.invariant-loop-ahead
invariant-loop-ahead l =
    (l.first ≡ first_of l.chunks (deals_in l.ahead)) × (l.first ≤ 4294967296) × (dealing l.chunks l.descriptions (deals_in l.ahead) ≡ deals_agree l.stsc l.chunks l.descriptions)
    × (l.rest ≤ 4294967295) × (l.rest + sum (per_chunk l.stsc l.chunks) ≡ l.samples + sum (dealt (λ e. e.per) l.chunks (deals_in l.ahead)))

abbrev pub decreases-loop-ahead : goal.decreases-loop-ahead
decreases-loop-ahead l = length l.ahead
