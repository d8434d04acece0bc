-- Rows 7 to 13 and 19 of the table: they follow those of the crate shape, and each track's own are those that the crate track judges.
-- Assumes nothing.
use Prim.Native.Nat.{ℕ, zero, suc, ◌≤◌, ◌<◌, ◌^◌}
use mathlib.Core.Path.{◌≡◌, refl, sym, ap, ◌∙◌}
use mathlib.Core.List.{List, ◌++◌}
use mathlib.Core.Bool.{true}
use lib.ListN.{length}
use lib.Dec.{eqb-suc-zero}
use native.Mathlib.Omega.{arith}
use borrow.Author.Tests.{eq-eqb, ne_eqb}
use Rattle.structure.specs.declared.source.Source.{Source}
use Rattle.structure.specs.Rows.{first, rank, ranks_rise, first_judged, of_whole, or_else}
use Rattle.structure.specs.ByTracks.{of_track, of_tracks, earlier_of}
use Rattle.structure.specs.Movie.{moov_of, movie_scale, tracks_of}
use Rattle.structure.specs.Source.{length_of}
use Rattle.shape.specs.Refusals.{file_rows}
use Rattle.shape.specs.MovieRows.{movie_rows, movie_refusal, refusal_of}
use Rattle.structure.proofs.Rows.{by_tracks, judged_append}
use Rattle.shape.proofs.Tracks.{movie_rows_rise}
use Rattle.shape.proofs.Callers.{shaped}
use Rattle.track.specs.TrackRows.{track_rows, timed_rows}
use Rattle.movie.specs.Refusals.{id_is_zero, scale_is_zero, moov_rows, moov_refusal, film_refusal}
use Rattle.movie.specs.TableRows.{table_rows, tables_refusal}

pub rows_are : (w : Source) (scale len : ℕ) → moov_rows w scale len ≡ movie_rows w.alone ++ table_rows w scale len
unfolding moov_rows movie_rows table_rows
rows_are w scale len = refl

pub table_rows_rise : (w : Source) (scale len : ℕ) → ranks_rise 12 (table_rows w scale len) ≡ true
unfolding rank ranks_rise table_rows
table_rows_rise w scale len = refl

-- a track's own number is what the crate track answers
pub track-rows : (w : Source) (scale len : ℕ) (t : List ℕ) → of_track (track_rows w scale len) t ≡ of_track (table_rows w scale len) t
unfolding first track_rows timed_rows table_rows id_is_zero scale_is_zero
track-rows w scale len t = refl

pub tables_by_tracks : (w : Source) (scale len : ℕ) (m : List ℕ) → scale ≡ movie_scale m
    → tables_refusal w len m ≡ earlier_of (of_whole (table_rows w scale len) m) (of_tracks (table_rows w scale len) (tracks_of m))
unfolding tables_refusal
tables_by_tracks w scale len m e = rw (← e) (by_tracks 12 (table_rows w scale len) m (tracks_of m) (table_rows_rise w scale len))

-- ---- the whole

pub moov_is : (w : Source) (len : ℕ) (m : List ℕ) → moov_refusal w len m ≡ or_else (movie_refusal w.alone m) (tables_refusal w len m)
unfolding moov_refusal movie_refusal tables_refusal
moov_is w len m =
    ap (λ rs. first_judged rs m (tracks_of m)) (rows_are w (movie_scale m) len)
    ∙ judged_append 6 (movie_rows w.alone) (table_rows w (movie_scale m) len) m (tracks_of m) (movie_rows_rise w.alone)

else_assoc : (a b c : ℕ) → or_else a (or_else b c) ≡ or_else (or_else a b) c
unfolding or_else
else_assoc zero b c = refl
else_assoc (suc a) b c = rw (eqb-suc-zero a, eqb-suc-zero a)

pub film_is : (s : List ℕ) (w : Source) → film_refusal s w ≡ or_else (refusal_of w s) (tables_refusal w (length_of w s) (moov_of s))
unfolding film_refusal refusal_of
film_is s w =
    let len = length_of w s in
    ap (or_else (of_whole (file_rows w) s)) (moov_is w len (moov_of s)) ∙ else_assoc (of_whole (file_rows w) s) (movie_refusal w.alone (moov_of s)) (tables_refusal w len (moov_of s))

-- ---- from what a caller has of `shape::judge`, `length_of` and `tables_refusal`

pub refused_first : (s : List ℕ) (w : Source) (r : ℕ) → r ≡ refusal_of w s → (r ≡ 0 → ⊥) → r ≡ film_refusal s w
unfolding or_else
refused_first s w r e n = sym (film_is s w ∙ rw (← e, ne_eqb r 0 n))

pub then_tables : (s : List ℕ) (w : Source) (r len q : ℕ) → r ≡ refusal_of w s → r ≡ 0 → len ≡ length_of w s → q ≡ tables_refusal w len (moov_of s)
    → q ≡ film_refusal s w
unfolding or_else
then_tables s w r len q e z l h = sym (film_is s w ∙ rw (← e, eq-eqb r 0 z, ← l, ← h))

pub film_fits : (s : List ℕ) (w : Source) (r : ℕ) → r ≡ refusal_of w s → r ≡ 0 → (length s < 2 ^ 32) × (length (tracks_of (moov_of s)) ≤ 16)
film_fits s w r e z = let h = shaped s w (sym e ∙ z) in (omega (arith, h.short), h.movie.few_tracks)
