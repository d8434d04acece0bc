-- The walk over the pairs, from place to place: the pairs from a place on, and that they fit.
-- Assumes nothing.
use Prim.Native.Nat.{ℕ, ◌^◌}
use mathlib.Core.Path.{◌≡◌, ap}
use mathlib.Core.Bool.{true, false, ◌||◌}
use mathlib.Core.List.{List, [], ◌++◌}
use lib.Dec.{eqb, leb}
use Rattle.pairs.specs.Walks.{pairs_between, pairs_ahead, Fitting, At, AtOnce, pairs_at_once, place_past, StartsAt}
use Rattle.pairs.specs.declared.Pair.{Pair}
use Rattle.pairs.specs.declared.ChunkPosition.{ChunkPosition}
use Rattle.pairs.proofs.Filling.{fitting_append}
use Rattle.pairs.proofs.Walking.{at_end, at_once, at_past, from_start}

module _ (stsc stsz offsets : List ℕ) (chunks i j : ℕ) where
  abbrev pub all_pairs : List Pair
  all_pairs = pairs_between stsc stsz offsets chunks i j

  abbrev pub ahead_of : ChunkPosition → List Pair
  ahead_of p = pairs_ahead stsc stsz offsets chunks i j p

  -- a place, and that the pairs from there on fit
  pub record Walking (p : ChunkPosition) : Type 0 where
    pub place : At stsc chunks i p
    pub fits : Fitting (2 ^ 64) (ahead_of p)

  pub walking_start : (p : ChunkPosition) → StartsAt stsc chunks i p → Fitting (2 ^ 64) all_pairs → Walking p × (ahead_of p ≡ all_pairs)
  walking_start p s f =
      let e = from_start stsc stsz offsets chunks i j p s in
      (record { place = s.at; fits = rw e f }, e)

  module _ (p : ChunkPosition) (w : Walking p) where
    pub walking_end : (eqb p.cursor.remaining 0 || leb j p.begin) ≡ true → ahead_of p ≡ []
    walking_end e = at_end stsc stsz offsets chunks i j p w.place e

    module _ (e : (eqb p.cursor.remaining 0 || leb j p.begin) ≡ false) (n : ℕ) (o : AtOnce stsz offsets i j p n) where
      pub walking_split : ahead_of p ≡ pairs_at_once stsz offsets i j p n ++ ahead_of (place_past stsc chunks n p)
      walking_split = at_once stsc stsz offsets chunks i j p w.place e n o

      parts : Fitting (2 ^ 64) (pairs_at_once stsz offsets i j p n) × Fitting (2 ^ 64) (ahead_of (place_past stsc chunks n p))
      parts = fitting_append (2 ^ 64) (pairs_at_once stsz offsets i j p n) (ahead_of (place_past stsc chunks n p)) (rw walking_split at w.fits)

      pub walking_fits : Fitting (2 ^ 64) (pairs_at_once stsz offsets i j p n)
      walking_fits = parts.0

      pub walking_turn : (r : ChunkPosition) → r ≡ place_past stsc chunks n p → Walking r × (ahead_of r ≡ ahead_of (place_past stsc chunks n p))
      walking_turn r f = (rw f (record { place = at_past stsc stsz offsets chunks i j p w.place e n o.few o.some; fits = parts.1 }), ap ahead_of f)
