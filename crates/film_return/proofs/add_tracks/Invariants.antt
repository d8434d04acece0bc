-- `film_return::add_tracks` meets its contract. The loop's invariant: the tracks from i on are ahead of what was added.
-- Assumes nothing.
use Prim.Native.Nat.{◌-◌, ◌≤◌}
use mathlib.Core.List.{map}
use lib.ListN.{drop}
use Rattle.structure.specs.Movie.{moov_of, tracks_of}
use Rattle.track_list.specs.Lines.{TotalsFit}
use Rattle.return_totals.specs.Returns.{Return, with_tracks}
use Rattle.return_totals.specs.Following.{Follows}
use Rattle.return_totals.specs.declared.FilmReturn.{FilmReturn}
use Rattle.film_return.specs.Films.{totals_of}
use Rattle.film_return.proofs.Tracks.{Ahead}
use Rattle.film_return.proofs.add_tracks.Given as goal

abbrev pub invariant-loop-i : goal.invariant-loop-i
invariant-loop-i l =
    (l.i ≤ l.count)
    × TotalsFit (drop l.i (tracks_of (moov_of l.lent)))
    × ((r : FilmReturn) (s : Return) → Follows r s l.initial.g → Ahead r (with_tracks (map totals_of (tracks_of (moov_of l.lent))) s) (drop l.i (tracks_of (moov_of l.lent))) l.g)

abbrev pub decreases-loop-i : goal.decreases-loop-i
decreases-loop-i l = l.count - l.i
