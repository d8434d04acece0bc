-- `positions::sync::sync_seek` meets its contract: the numbers not above the index are those passed and those still to pass.
-- Assumes nothing.
use Prim.Native.Nat.{◌+◌, ◌*◌, ◌-◌}
use mathlib.Core.Path.{◌≡◌}
use lib.ListN.{length, drop}
use Rattle.words.specs.Words.{words_in}
use Rattle.positions.specs.Syncs.{not_above, sync_place}
use Rattle.positions.proofs.sync.sync_seek.Given as goal

abbrev pub invariant-loop-t : goal.invariant-loop-t
invariant-loop-t l = l.at + not_above l.index (words_in (drop l.at l.stss)) * 4 ≡ sync_place l.stss l.index

abbrev pub decreases-loop-t : goal.decreases-loop-t
decreases-loop-t l = length l.stss - l.at
