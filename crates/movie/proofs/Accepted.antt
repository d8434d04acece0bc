-- What holds of a film that is not refused, beyond its shape: no row of the table holds of its movie or of one of its tracks.
-- Assumes nothing.
use Prim.Native.Nat.{ℕ, ◌≤◌}
use mathlib.Core.Path.{◌≡◌, sym, ◌∙◌}
use mathlib.Core.List.{List, []}
use mathlib.Core.Bool.{true, false, ◌||◌}
use lib.ListN.{get_or}
use lib.Dec.{ltb}
use borrow.Author.Tests.{eqb-true, eqb-false, ltb-false, not-false}
use Rattle.lists.proofs.Booleans.{or_left, or_right}
use Rattle.structure.specs.declared.source.Source.{Source}
use Rattle.structure.specs.Rows.{some}
use Rattle.structure.specs.Track.{id_of, scale_of, duration_of, elst_of}
use Rattle.structure.specs.Movie.{moov_of, movie_scale, tracks_of}
use Rattle.structure.specs.Source.{length_of}
use Rattle.structure.proofs.Callers.{Clear, clear, some_none, none_else, Each}
use Rattle.shape.proofs.Shaped.{Shaped, ShapedMovie, ShapedFile}
use Rattle.shape.proofs.Callers.{shaped, tracks_each}
use Rattle.edits.specs.Edits.{edit_total}
use Rattle.track.specs.Refusals.{contradicts, total_in, total_too_large, other_duration, data_elsewhere, chunk_past_end, wrong_edits}
use Rattle.movie.specs.Tracks.{ids_of, repeats}
use Rattle.movie.specs.Refusals.{same_ids, id_is_zero, movie_scale_is_zero, scale_is_zero, film_refusal}
use Rattle.movie.specs.TableRows.{table_rows, tables_refusal}
use Rattle.movie.proofs.Tables.{film_is, table_rows_rise}

-- a track of a movie of that source and time scale, in a file of that length
pub record Accepted (w : Source) (scale len : ℕ) (t : List ℕ) : Type 0 where
  pub shape : Shaped t
  pub some_id : id_of t ≡ 0 → ⊥
  pub some_scale : scale_of t ≡ 0 → ⊥
  pub agree : contradicts t ≡ false
  pub total_fits : total_in t ≤ 4294967295
  pub edits_fit : edit_total (elst_of t) ≤ 4294967295
  pub stored : w.strict ≡ true → duration_of t ≡ total_in t
  pub here : data_elsewhere t ≡ false
  pub within : chunk_past_end len t ≡ false
  pub edits : wrong_edits scale t ≡ false

pub record AcceptedMovie (w : Source) (len : ℕ) (m : List ℕ) : Type 0 where
  pub shape : ShapedMovie m
  pub other_ids : repeats (ids_of m) ≡ false
  pub some_scale : movie_scale m ≡ 0 → ⊥
  pub tracks : Each (Accepted w (movie_scale m) len) (tracks_of m)

pub record AcceptedFile (s : List ℕ) (w : Source) : Type 0 where
  pub shape : ShapedFile s w
  pub movie : AcceptedMovie w (length_of w s) (moov_of s)

module _ (w : Source) (len : ℕ) (m : List ℕ) (shape : ShapedMovie m) (e : tables_refusal w len m ≡ 0) where
  rows_clear : Clear (λ r. r.whole m || some r.track (tracks_of m)) (table_rows w (movie_scale m) len)
  unfolding tables_refusal
  rows_clear = clear _ 12 (table_rows w (movie_scale m) len) (table_rows_rise w (movie_scale m) len) e

  accepted_movie : AcceptedMovie w len m
  unfolding table_rows same_ids id_is_zero movie_scale_is_zero scale_is_zero total_too_large other_duration
  accepted_movie =
      let r = rows_clear in
      record {
        shape = shape;
        other_ids = or_left _ _ r.0;
        some_scale = eqb-false _ _ (or_left _ _ r.1.0);
        tracks = λ i h.
            let t = get_or (tracks_of m) i [] in
            let long = some_none total_too_large (tracks_of m) i r.1.1.1.0 h in
            record {
              shape = tracks_each m shape i h;
              some_id = eqb-false _ _ (some_none id_is_zero (tracks_of m) i (or_right (same_ids m) _ r.0) h);
              some_scale = eqb-false _ _ (some_none scale_is_zero (tracks_of m) i (or_right (movie_scale_is_zero m) _ r.1.0) h);
              agree = some_none contradicts (tracks_of m) i r.1.1.0 h;
              total_fits = ltb-false _ _ (or_left _ _ long);
              edits_fit = ltb-false _ _ (or_right (ltb 4294967295 (total_in t)) _ long);
              stored = λ q. eqb-true _ _ (not-false _ (rw q at (some_none (other_duration w) (tracks_of m) i r.1.1.1.1.0 h)));
              here = some_none data_elsewhere (tracks_of m) i r.1.1.1.1.1.0 h;
              within = some_none (chunk_past_end len) (tracks_of m) i r.1.1.1.1.1.1.0 h;
              edits = some_none (wrong_edits (movie_scale m)) (tracks_of m) i r.1.1.1.1.1.1.1.0 h;
            };
      }

pub accepted : (s : List ℕ) (w : Source) → film_refusal s w ≡ 0 → AcceptedFile s w
accepted s w e =
    let n = none_else _ _ (sym (film_is s w) ∙ e) in
    let h = shaped s w n.0 in
    record { shape = h; movie = accepted_movie w (length_of w s) (moov_of s) h.movie n.1 }
