-- The traks of a movie that has no more than 16, one after the other: the IDs and the refusals of those from a place on.
-- Assumes nothing.
use Prim.Native.Nat.{ℕ, suc, ◌+◌, ◌≤◌, ◌<◌, ◌^◌}
use mathlib.Core.Path.{◌≡◌, ap, ◌∙◌}
use mathlib.Core.List.{List, [], ◌∷◌, ◌++◌, map}
use mathlib.Core.Bool.{true, false}
use native.Mathlib.Omega.{arith}
use native.Mathlib.Decide.{dec_le}
use lib.ListN.{length, get_or, drop, length-take, length-drop, drop_of_length-le}
use lib.Seq.{drop-cons}
use Rattle.words.specs.Words.{listed}
use Rattle.bigendian.specs.BigEndian.{u32_at}
use Rattle.structure.specs.Track.{id_of}
use Rattle.structure.specs.Movie.{movie_scale}
use Rattle.structure.specs.Rows.{Row}
use Rattle.structure.specs.ByTracks.{earlier_of, of_track, of_tracks}
use Rattle.structure.proofs.Rows.{earlier_none, earlier_assoc}
use Rattle.places.specs.Places.{part_in, AreParts, IsTrak, no_trak}
use Rattle.places.specs.Movies.{AreMovieHeads, AreTraks}
use Rattle.places.specs.declared.moov.MovieHeads.{MovieHeads}
use Rattle.places.specs.declared.Part.{Part}
use Rattle.places.specs.declared.trak.Trak.{Trak}
use Rattle.places.specs.declared.moov.Traks.{Traks}
use Rattle.movie.specs.Traks.{FewTraks}
use Rattle.movie.proofs.Repeats.{again}

pub few_traks : (s : List ℕ) (ts : List (List ℕ)) (r : Traks) → AreTraks s ts r → length ts ≤ 16 → FewTraks s ts r
few_traks s ts r a h = record {
  few = h;
  count = elim (dec_le r.count 16) [
    | yes l ↦ a.few l
    | no l ↦ let g = a.many (omega arith) in absurd (omega arith)
  ];
  each = λ i g. a.each i (omega arith) g;
}

-- the time scale, from the header
pub scale_is : (s m x : List ℕ) (h : MovieHeads) (n : ℕ) → AreMovieHeads s m h → x ≡ part_in s h.mvhd → n ≡ u32_at x 20 → n ≡ movie_scale m
unfolding movie_scale
scale_is s m x h n a e f = f ∙ ap (λ (l : List ℕ). u32_at l 20) (e ∙ a.mvhd)

part_short : (s : List ℕ) (p : Part) → length (part_in s p) ≤ length s
unfolding part_in
part_short s p = omega (arith, length-take p.len (drop p.at s), length-drop p.at s)

-- ---- the trak at i

module _ (s : List ℕ) (ts : List (List ℕ)) (r : Traks) (f : FewTraks s ts r) (i : ℕ) (h : i < r.count) where
  pub in_tracks : i < length ts
  in_tracks = omega (arith, f.count)

  pub in_room : i < 16
  in_room = omega (arith, f.count, f.few)

  module _ (x : Trak) (e : x ≡ get_or r.of i no_trak) where
    pub trak_is : IsTrak s (get_or ts i []) x
    trak_is = rw e (f.each i in_tracks)

    pub its_parts : AreParts (part_in s x.body) x.parts
    its_parts = rw trak_is.body trak_is.parts

    pub its_id : (n : ℕ) → n ≡ id_of (part_in s x.body) → n ≡ id_of (get_or ts i [])
    its_id n g = g ∙ ap id_of trak_is.body

    -- its body, from what the code has of it
    module _ (b : List ℕ) (g : b ≡ part_in s x.body) where
      pub body_is : b ≡ get_or ts i []
      body_is = g ∙ trak_is.body

      pub body_parts : AreParts b x.parts
      body_parts = rw g its_parts

      pub body_fits : length s < 2 ^ 32 → length b < 2 ^ 32
      body_fits l = rw g (omega (arith, part_short s x.body))

-- ---- those from i on

module _ (ts : List (List ℕ)) (i : ℕ) where
  none_left : length ts ≤ i → drop i ts ≡ []
  none_left h = drop_of_length-le ts {i = i} h

  pub again_past : (xs : List ℕ) → length ts ≤ i → again xs (map id_of (drop i ts)) ≡ false
  again_past xs h = rw (none_left h)

  pub found_past : (rs : List Row) (found : ℕ) → length ts ≤ i → earlier_of found (of_tracks rs (drop i ts)) ≡ found
  unfolding of_tracks
  found_past rs found h = rw (none_left h) (earlier_none found)

  module _ (h : i < length ts) where
    pub from_here : drop i ts ≡ get_or ts i [] ∷ drop (i + 1) ts
    from_here = let k : i + 1 ≡ suc i = omega arith in rw k (drop-cons ts i [] h)

    pub found_more : (rs : List Row) (found next new : ℕ) → next ≡ of_track rs (get_or ts i []) → new ≡ earlier_of found next
        → earlier_of new (of_tracks rs (drop (i + 1) ts)) ≡ earlier_of found (of_tracks rs (drop i ts))
    unfolding of_tracks
    found_more rs found next new d q = rw (from_here, ← d, q) (earlier_assoc found next _)

    module _ (n : ℕ) (d : n ≡ id_of (get_or ts i [])) where
      pub again_found : (xs : List ℕ) → listed n xs ≡ true → again xs (map id_of (drop i ts)) ≡ true
      again_found xs q = rw (from_here, ← d, q)

      pub again_more : (xs : List ℕ) → listed n xs ≡ false → again xs (map id_of (drop i ts)) ≡ again (xs ++ n ∷ []) (map id_of (drop (i + 1) ts))
      again_more xs q = rw (from_here, ← d, q)
