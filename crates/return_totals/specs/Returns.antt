-- The film return as plain lists. Document 02: "The waste return wants totals over many movies: files accepted, files refused under each number,
-- tracks, samples, film bytes (all sizes) and, for each media time scale met, its tracks' totals added."
use Rattle.std.specs.Prelude.{ℕ, ◌+◌, ◌-◌, min, ◌≡◌, Bool, false, cond, ◌||◌, List, [], ◌∷◌, ◌++◌, map, length, get_or, take, drop, set, replicate, ltb, leb, eqb}
use Rattle.return_totals.specs.declared.FilmReturn.{FilmReturn}
use Rattle.return_totals.specs.declared.TrackTotals.{TrackTotals}

-- a media time scale that was met, and its tracks' totals added
pub record Scale : Type 0 where
  pub scale : ℕ
  pub total : ℕ

pub record Return : Type 0 where
  pub accepted : ℕ
  -- under each of the numbers 1 to 13 and 19, in this order
  pub refused : List ℕ
  pub tracks : ℕ
  pub samples : ℕ
  pub bytes : ℕ
  -- "in order of first meeting"
  pub scales : List Scale

-- an empty return
abbrev pub empty_return : Return
empty_return = record { accepted = 0; refused = replicate 14 0; tracks = 0; samples = 0; bytes = 0; scales = [] }

-- ---- what is added to a return, without a limit

-- units more for a scale; one that was not met before goes last
abbrev pub with_units : ℕ → ℕ → List Scale → List Scale
with_units k u [] = record { scale = k; total = u } ∷ []
with_units k u (x ∷ xs) = cond (eqb x.scale k) (record { scale = x.scale; total = x.total + u } ∷ xs) (x ∷ with_units k u xs)

-- a track more: its samples, the bytes of all its sizes, and its total for its scale
unfoldable pub with_track : TrackTotals → Return → Return
with_track t r =
    record {
      accepted = r.accepted;
      refused = r.refused;
      tracks = r.tracks + 1;
      samples = r.samples + t.samples;
      bytes = r.bytes + t.bytes;
      scales = with_units t.scale t.total r.scales;
    }

abbrev pub with_tracks : List TrackTotals → Return → Return
with_tracks [] r = r
with_tracks (t ∷ ts) r = with_tracks ts (with_track t r)

-- one file accepted more
unfoldable pub with_accepted : Return → Return
with_accepted r =
    record {
      accepted = r.accepted + 1;
      refused = r.refused;
      tracks = r.tracks;
      samples = r.samples;
      bytes = r.bytes;
      scales = r.scales;
    }

-- the place of a refusal's number among the fourteen, 1 to 13 and 19; 14, which is no place of them, for any other number
unfoldable pub slot_of : ℕ → ℕ
slot_of n = cond (eqb n 19) 13 (cond (eqb n 0 || ltb 13 n) 14 (n - 1))

-- one more at a place; nothing where there is no such place
abbrev pub one_more : List ℕ → ℕ → List ℕ
one_more l i = set l i (get_or l i 0 + 1)

-- one file more that is refused with that number; a number that is none of the fourteen is not counted
unfoldable pub with_refused : ℕ → Return → Return
with_refused n r =
    record {
      accepted = r.accepted;
      refused = one_more r.refused (slot_of n);
      tracks = r.tracks;
      samples = r.samples;
      bytes = r.bytes;
      scales = r.scales;
    }

-- ---- the limits

-- every total of a return
abbrev pub totals_in : Return → List ℕ
totals_in r = r.accepted ∷ r.tracks ∷ r.samples ∷ r.bytes ∷ (r.refused ++ map (λ x. x.total) r.scales)

-- one of them is 2^64 or more
abbrev pub any_over : List ℕ → Bool
any_over [] = false
any_over (n ∷ ns) = leb 18446744073709551616 n || any_over ns

-- "Up to 32 scales are held"; "20 for a thirty-third scale, then 21 for a total that would reach 2^64"; 0 where neither is. r is the return with the
-- whole of a file in it
unfoldable pub limit_refusal : Return → ℕ
limit_refusal r = cond (ltb 32 (length r.scales)) 20 (cond (any_over (totals_in r)) 21 0)

-- the return r with the whole of a file in it, which would be `new`: "either leaves the return without any of that file"
unfoldable pub limited : Return → Return → Return
limited r new = cond (eqb (limit_refusal new) 0) new r

-- ---- a return as the code keeps it

abbrev pub scales_from : List ℕ → List ℕ → List Scale
scales_from [] us = []
scales_from (k ∷ ks) [] = []
scales_from (k ∷ ks) (u ∷ us) = record { scale = k; total = u } ∷ scales_from ks us

-- the first `count` scales with their units, 32 where the count is above that. What stands past them is read by nobody
unfoldable pub scales_in : FilmReturn → List Scale
scales_in r = scales_from (take (min r.count 32) r.scales) (take (min r.count 32) r.units)

unfoldable pub return_of : FilmReturn → Return
return_of r =
    record {
      accepted = r.accepted;
      refused = r.refused;
      tracks = r.tracks;
      samples = r.samples;
      bytes = r.bytes;
      scales = scales_in r;
    }

-- the state of an empty return: zeros, also in the places of the arrays, none of which holds a scale
abbrev pub empty_state : FilmReturn
empty_state =
    record {
      accepted = 0;
      refused = replicate 14 0;
      tracks = 0;
      samples = 0;
      bytes = 0;
      count = 0;
      scales = replicate 32 0;
      units = replicate 32 0;
    }

-- what `return_of` does not say of the state after, by the state before: the count is that of the scales held, but a count above 32 stays; the places
-- of the arrays past those scales are as they were
pub record KeepsRest (before after : FilmReturn) : Type 0 where
  pub count : after.count ≡ cond (ltb 32 before.count) before.count (length (scales_in after))
  pub scales : drop (length (scales_in after)) after.scales ≡ drop (length (scales_in after)) before.scales
  pub units : drop (length (scales_in after)) after.units ≡ drop (length (scales_in after)) before.units
