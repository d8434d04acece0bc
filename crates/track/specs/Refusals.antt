-- The refusals of a track, 9 to 13 and 19, each a condition on the body t of its trak with the papers' words beside it.
use Rattle.std.specs.Prelude.{ℕ, List, [], ◌∷◌, Bool, false, not, ◌&&◌, ◌||◌, length, ltb, eqb}
use Rattle.atoms.specs.Kinds.{stts, ctts, stsc, stsz, stss}
use Rattle.structure.specs.declared.source.Source.{Source}
use Rattle.structure.specs.Track.{scale_of, duration_of, table_of, offset_table, elst_of, samples_of, chunks_of, descriptions_of}
use Rattle.lists.specs.Lists.{sum, Run}
use Rattle.runs.specs.Runs.{runs_of, per_sample}
use Rattle.words.specs.Words.{sizes, chunk_offsets, syncs_agree}
use Rattle.chunks.specs.Chunks.{per_chunk, deals_contradict, end_within}
use Rattle.edits.specs.Edits.{edit_total, edits_ok}
use Rattle.references.specs.References.{all_in_this_file}
use Rattle.track.specs.Track.{track_of}

abbrev pub any_empty : List Run → Bool
any_empty [] = false
any_empty (r ∷ rs) = eqb r.count 0 || any_empty rs

-- "an stts or ctts entry counts 0 samples"; "stts, or a present ctts, doesn't total N": of one of the two tables
unfoldable pub miscounted : ℕ → List ℕ → Bool
miscounted n s = any_empty (runs_of s) || not (eqb n (length (per_sample s)))

-- 9: "sample tables contradict each other", with N samples from stsz and C chunks from stco, or from co64 in its place
unfoldable pub contradicts : List ℕ → Bool
contradicts t =
    miscounted (samples_of t) (table_of stts t)
    -- "a present ctts"
    || ((not (eqb (length (table_of ctts t)) 0) && miscounted (samples_of t) (table_of ctts t))
    -- "C is 0 with .. N not 0"
    || ((eqb (chunks_of t) 0 && not (eqb (samples_of t) 0))
    -- "C is 0 with stsc not empty"; "C is above 0 and stsc is empty, doesn't start at chunk 1, isn't strictly rising, or passes C"; "an entry
    -- has 0 samples per chunk"; "an ID is 0 or above the number of descriptions": each a clause of `deals_contradict`
    || (deals_contradict (table_of stsc t) (chunks_of t) (descriptions_of t)
    -- "samples dealt to the C chunks don't total N"
    || (not (eqb (sum (per_chunk (table_of stsc t) (chunks_of t))) (samples_of t))
    -- "stss isn't strictly rising within 1 to N"
    || not (syncs_agree (table_of stss t) (samples_of t))))))

-- "the total of the sample durations"
unfoldable pub total_in : List ℕ → ℕ
total_in t = sum (per_sample (table_of stts t))

-- 10: "the sample durations, or a track's edit durations, total over 4,294,967,295"
unfoldable pub total_too_large : List ℕ → Bool
total_too_large t = ltb 4294967295 (total_in t) || ltb 4294967295 (edit_total (elst_of t))

-- 11: "the mdhd duration is not the total of the sample durations"; document 02: "only where strict reading is asked for"
unfoldable pub other_duration : Source → List ℕ → Bool
other_duration w t = w.strict && not (eqb (duration_of t) (total_in t))

-- 19, document 02: "data elsewhere or no such entry", "judged after 11 and before 12": of the descriptions and data references that the
-- track's record holds
unfoldable pub data_elsewhere : List ℕ → Bool
data_elsewhere t = not (all_in_this_file (track_of t).references (track_of t).descriptions)

-- 12: "a chunk's offset plus the sizes of its samples passes the file's end"
unfoldable pub chunk_past_end : ℕ → List ℕ → Bool
chunk_past_end len t = not (end_within len (per_chunk (table_of stsc t) (chunks_of t)) (chunk_offsets (offset_table t)) (sizes (table_of stsz t)))

-- 13: "an edit list is wrong"
unfoldable pub wrong_edits : ℕ → List ℕ → Bool
wrong_edits movie t = not (edits_ok (scale_of t) movie (total_in t) (elst_of t))
