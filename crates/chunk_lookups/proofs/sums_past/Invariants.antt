-- `chunk_lookups::sums_past` meets its contract: what is added so far, with the entries still to be added, comes to the same.
-- Assumes nothing.
use Rattle.std.proofs.Common.{◌≡◌, ◌-◌, ◌≤◌, take}
use Rattle.chunks.specs.Chunks.{deals_in, chunk_runs}
use Rattle.checkpoints.specs.Points.{with_runs}
use Rattle.chunk_lookups.proofs.sums_past.Given as goal

abbrev pub invariant-loop-i : goal.invariant-loop-i
invariant-loop-i l = (l.i ≤ 64) × (with_runs (take (64 - l.i) (chunk_runs (λ e. e.per) l.chunks (deals_in l.s))) l.r ≡ with_runs (take 64 (chunk_runs (λ e. e.per) l.chunks (deals_in l.part))) l.initial.r)

abbrev pub decreases-loop-i : goal.decreases-loop-i
decreases-loop-i l = 64 - l.i
