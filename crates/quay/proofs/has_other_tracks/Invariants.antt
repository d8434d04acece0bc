-- `quay::has_other_tracks` meets its contract. The loop's invariant: the subtypes of the tracks from i on say what all say.
-- Assumes nothing.
use Prim.Native.Nat.{◌-◌, ◌≤◌}
use mathlib.Core.Path.{◌≡◌}
use lib.ListN.{drop}
use Rattle.atoms.specs.Kinds.{vide}
use Rattle.structure.specs.Movie.{moov_of, tracks_of}
use Rattle.quay_tracks.specs.Profile.{all_of}
use Rattle.quay.proofs.has_other_tracks.Given as goal

abbrev pub invariant-loop-i : goal.invariant-loop-i
invariant-loop-i l = (l.i ≤ l.count) × (all_of vide (drop l.i (tracks_of (moov_of l.lent))) ≡ all_of vide (tracks_of (moov_of l.lent)))

abbrev pub decreases-loop-i : goal.decreases-loop-i
decreases-loop-i l = l.count - l.i
