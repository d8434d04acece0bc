-- One row of the table of a track after the other: the first whose condition holds gives its number.
-- Assumes nothing.
use Rattle.std.specs.Prelude.{Option, Some, None}
use Prim.Native.Nat.{ℕ, ◌<◌}
use mathlib.Core.Path.{◌≡◌, sym, ap, ◌∙◌}
use mathlib.Core.Bool.{Bool, true, false, not, ◌&&◌}
use mathlib.Core.List.{List}
use native.Mathlib.Omega.{arith}
use lib.Dec.{ltb, eqb}
use borrow.Author.Tests.{lt-ltb, le-ltb, eq-eqb, ne_eqb}
use Rattle.lists.specs.Totals.{total_of}
use Rattle.lists.proofs.Totals.{total_known, over_known}
use Rattle.structure.specs.Rows.{first}
use Rattle.structure.specs.ByTracks.{of_track}
use Rattle.atoms.specs.Kinds.{trak, mdia, tkhd, mdhd, stts, stsc, stsz, stsd}
use Rattle.atoms.specs.Atoms.{child_in}
use Rattle.bigendian.specs.BigEndian.{u32_at}
use Rattle.lists.specs.Lists.{sum}
use Rattle.runs.specs.Runs.{per_sample}
use Rattle.words.specs.Words.{sizes, chunk_offsets}
use Rattle.chunks.specs.Chunks.{per_chunk, end_within}
use Rattle.structure.specs.declared.source.Source.{Source}
use Rattle.structure.specs.Track.{id_of, subtype_of, scale_of, duration_of, mdia_of, table_of, offset_table, elst_of, dref_of}
use Rattle.edits.specs.Edits.{edit_total, edits_ok}
use Rattle.descriptions.specs.Descriptions.{descriptions}
use Rattle.references.specs.References.{references, all_in_this_file}
use Rattle.track.specs.Track.{least_size, track_of}
use Rattle.track.specs.Refusals.{contradicts, total_in, total_too_large, other_duration, data_elsewhere, chunk_past_end, wrong_edits}
use Rattle.track.specs.TrackRows.{timed_rows, track_rows}

-- ---- totals

module _ (x : ℕ) (r : Option ℕ) (is : r ≡ total_of x) where
  pub sum_is : (n : ℕ) → r ≡ Some n → x ≡ n
  sum_is n q = (total_known x n (sym is ∙ q)).0

  pub sum_within : (n : ℕ) → r ≡ Some n → ltb 4294967295 x ≡ false
  sum_within n q = le-ltb 4294967295 x (total_known x n (sym is ∙ q)).1

  pub over_is : r ≡ None → ltb 4294967295 x ≡ true
  over_is q = lt-ltb 4294967295 x (over_known x (sym is ∙ q))

  -- a total that fits is not over
  pub not_over : r ≡ None → x < 4294967296 → ⊥
  not_over q h = let k = over_known x (sym is ∙ q) in omega arith

-- ---- rows 10 to 13 and 19

module _ (w : Source) (movie len : ℕ) (t : List ℕ) (total : ℕ) (is : total ≡ total_in t) (fits : total < 4294967296) where
  short : ltb 4294967295 (total_in t) ≡ false
  short = le-ltb 4294967295 (total_in t) (omega arith)

  pub timed_10 : ltb 4294967295 (edit_total (elst_of t)) ≡ true → of_track (timed_rows w movie len) t ≡ 10
  unfolding timed_rows first total_too_large
  timed_10 a = rw (short, a)

  module _ (a : ltb 4294967295 (edit_total (elst_of t)) ≡ false) where
    pub timed_11 : other_duration w t ≡ true → of_track (timed_rows w movie len) t ≡ 11
    unfolding timed_rows first total_too_large
    timed_11 b = rw (short, a, b)

    module _ (b : other_duration w t ≡ false) where
      pub timed_19 : data_elsewhere t ≡ true → of_track (timed_rows w movie len) t ≡ 19
      unfolding timed_rows first total_too_large
      timed_19 c = rw (short, a, b, c)

      module _ (c : data_elsewhere t ≡ false) where
        pub timed_12 : chunk_past_end len t ≡ true → of_track (timed_rows w movie len) t ≡ 12
        unfolding timed_rows first total_too_large
        timed_12 d = rw (short, a, b, c, d)

        pub timed_13 : chunk_past_end len t ≡ false → wrong_edits movie t ≡ true → of_track (timed_rows w movie len) t ≡ 13
        unfolding timed_rows first total_too_large
        timed_13 d e = rw (short, a, b, c, d, e)

        pub timed_0 : chunk_past_end len t ≡ false → wrong_edits movie t ≡ false → of_track (timed_rows w movie len) t ≡ 0
        unfolding timed_rows first total_too_large
        timed_0 d e = rw (short, a, b, c, d, e)

-- ---- rows 7 to 9, and 10 where the durations alone are too long

module _ (w : Source) (movie len : ℕ) (t : List ℕ) where
  pub rows_7 : id_of t ≡ 0 → of_track (track_rows w movie len) t ≡ 7
  unfolding track_rows first
  rows_7 a = rw (eq-eqb (id_of t) 0 a)

  module _ (a : id_of t ≡ 0 → ⊥) where
    pub rows_8 : scale_of t ≡ 0 → of_track (track_rows w movie len) t ≡ 8
    unfolding track_rows first
    rows_8 b = rw (ne_eqb (id_of t) 0 a, eq-eqb (scale_of t) 0 b)

    module _ (b : scale_of t ≡ 0 → ⊥) where
      pub rows_9 : contradicts t ≡ true → of_track (track_rows w movie len) t ≡ 9
      unfolding track_rows first
      rows_9 c = rw (ne_eqb (id_of t) 0 a, ne_eqb (scale_of t) 0 b, c)

      pub rows_timed : contradicts t ≡ false → of_track (track_rows w movie len) t ≡ of_track (timed_rows w movie len) t
      unfolding track_rows first
      rows_timed c = rw (ne_eqb (id_of t) 0 a, ne_eqb (scale_of t) 0 b, c)

pub timed_over : (w : Source) (movie len : ℕ) (t : List ℕ) → ltb 4294967295 (total_in t) ≡ true → of_track (timed_rows w movie len) t ≡ 10
unfolding timed_rows first total_too_large
timed_over w movie len t a = rw a

-- ---- the conditions, by what the code reads

pub id_by : (t x : List ℕ) (n : ℕ) → x ≡ child_in trak tkhd 0 t → n ≡ u32_at x 20 → n ≡ id_of t
unfolding id_of
id_by t x n e f = f ∙ ap (λ (l : List ℕ). u32_at l 20) e

pub scale_by : (t x : List ℕ) (n : ℕ) → x ≡ child_in mdia mdhd 0 (mdia_of t) → n ≡ u32_at x 20 → n ≡ scale_of t
unfolding scale_of
scale_by t x n e f = f ∙ ap (λ (l : List ℕ). u32_at l 20) e

pub duration_by : (t x : List ℕ) (n : ℕ) → x ≡ child_in mdia mdhd 0 (mdia_of t) → n ≡ u32_at x 24 → n ≡ duration_of t
unfolding duration_of
duration_by t x n e f = f ∙ ap (λ (l : List ℕ). u32_at l 24) e

pub other_by : (w : Source) (t : List ℕ) (stored total : ℕ) → stored ≡ duration_of t → total ≡ total_in t → (w.strict && not (eqb stored total)) ≡ other_duration w t
unfolding other_duration
other_by w t stored total es et = rw (es, et)

pub elsewhere_by : (t d s : List ℕ) (least : ℕ) (r : Bool) → d ≡ dref_of t → s ≡ table_of stsd t → least ≡ least_size (subtype_of t)
    → r ≡ all_in_this_file (references d) (descriptions least s) → not r ≡ data_elsewhere t
unfolding data_elsewhere track_of
elsewhere_by t d s least r ed es el e = rw (e, ed, es, el)

pub chunk_past_end_by : (len : ℕ) (t x z o : List ℕ) (r : Bool) → x ≡ table_of stsc t → z ≡ table_of stsz t → o ≡ offset_table t
    → r ≡ end_within len (per_chunk x (u32_at o 12)) (chunk_offsets o) (sizes z) → not r ≡ chunk_past_end len t
unfolding chunk_past_end
chunk_past_end_by len t x z o r ex ez eo e = rw (e, ex, ez, eo)

pub wrong_by : (movie : ℕ) (t l : List ℕ) (scale total : ℕ) (r : Bool) → l ≡ elst_of t → scale ≡ scale_of t → total ≡ total_in t → r ≡ edits_ok scale movie total l → not r ≡ wrong_edits movie t
unfolding wrong_edits
wrong_by movie t l scale total r el es et e = rw (e, el, es, et)

pub total_by : (t s : List ℕ) → s ≡ table_of stts t → sum (per_sample s) ≡ total_in t
unfolding total_in
total_by t s e = ap (λ (l : List ℕ). sum (per_sample l)) e
