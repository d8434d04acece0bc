-- `movie::tracks::is_among` meets its contract. The loop's invariant: what those from i on say is what all say.
-- Assumes nothing.
use Prim.Native.Nat.{◌-◌, ◌≤◌}
use mathlib.Core.Path.{◌≡◌}
use lib.ListN.{take, drop}
use Rattle.words.specs.Words.{listed}
use Rattle.movie.proofs.tracks.is_among.Given as goal

abbrev pub invariant-loop-i : goal.invariant-loop-i
invariant-loop-i l = (l.i ≤ l.n) × (listed l.id (drop l.i (take l.n l.ids)) ≡ listed l.id (take l.n l.ids))

abbrev pub decreases-loop-i : goal.decreases-loop-i
decreases-loop-i l = l.n - l.i
