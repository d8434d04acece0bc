-- The tracks of a film from a place on, added to what the return follows so far.
-- Assumes nothing.
use Prim.Native.Nat.{ℕ, ◌+◌, ◌≤◌, ◌<◌, ◌^◌}
use mathlib.Core.Path.{◌≡◌, refl, sym, ap, ◌∙◌}
use mathlib.Core.List.{List, [], ◌∷◌, map}
use native.Mathlib.Omega.{arith}
use lib.ListN.{length, drop, drop_of_length-le}
use Rattle.atoms.specs.Kinds.{stsz}
use Rattle.bigendian.specs.BigEndian.{u32_at}
use Rattle.lists.specs.Lists.{sum}
use Rattle.structure.specs.Track.{scale_of, table_of, samples_of}
use Rattle.structure.proofs.Lengths.{table_short}
use Rattle.words.specs.Words.{sizes}
use Rattle.track.specs.Refusals.{total_in}
use Rattle.return_totals.specs.Returns.{Return, with_track, with_tracks}
use Rattle.return_totals.specs.Following.{Follows, Adds}
use Rattle.return_totals.specs.declared.FilmReturn.{FilmReturn}
use Rattle.return_totals.specs.declared.Filed.{Filed}
use Rattle.return_totals.specs.declared.TrackTotals.{TrackTotals}
use Rattle.film_return.specs.Films.{totals_of}
use Rattle.film_return.specs.Adding.{AddsTracks}

-- ---- a track

pub fits : (t s : List ℕ) → s ≡ table_of stsz t → length t < 2 ^ 32 → length s < 2 ^ 32
fits t s e h = rw e (omega (arith, table_short stsz t))

pub totals_are : (t s : List ℕ) (scale total samples bytes : ℕ) → s ≡ table_of stsz t → scale ≡ scale_of t → total ≡ total_in t → samples ≡ u32_at s 16 → bytes ≡ sum (sizes s)
    → (record { scale = scale; total = total; samples = samples; bytes = bytes }) ≡ totals_of t
unfolding totals_of
totals_are t s scale total samples bytes e a b c d = rw (a, b, c, d, e)

-- ---- those from i on

-- g follows a return to which the tracks ts are still to be added
pub record Ahead (r : FilmReturn) (goal : Return) (ts : List (List ℕ)) (g : Filed) : Type 0 where
  pub state : Return
  pub follows : Follows r state g
  pub rest : with_tracks (map totals_of ts) state ≡ goal

pub ahead_all : (f : Filed) (ts : List (List ℕ)) (r : FilmReturn) (s : Return) → Follows r s f → Ahead r (with_tracks (map totals_of ts) s) ts f
ahead_all f ts r s w = record { state = s; follows = w; rest = refl }

pub ahead_next : (r : FilmReturn) (goal : Return) (ts rest : List (List ℕ)) (b : List ℕ) (g h : Filed) (t : TrackTotals) → ts ≡ b ∷ rest → t ≡ totals_of b → Adds (with_track t) g h → Ahead r goal ts g → Ahead r goal rest h
ahead_next r goal ts rest b g h t q e a p =
    record { state = with_track t p.state; follows = a r p.state p.follows; rest = rw e (rw q at p.rest) }

pub ahead_none : (r : FilmReturn) (goal : Return) (ts : List (List ℕ)) (i : ℕ) (g : Filed) → length ts ≤ i → Ahead r goal (drop i ts) g → Follows r goal g
ahead_none r goal ts i g h p = let e : p.state ≡ goal = rw (drop_of_length-le ts {i = i} h) at p.rest in rw (← e) p.follows
