-- A track as plain lists, one number for each sample or chunk, from the body of its trak.
use Rattle.std.specs.Prelude.{ℕ, suc, Bool, cond, List, map, ℤ, eqb}
use Rattle.atoms.specs.Kinds.{stts, ctts, stsc, stsz, stss, stsd, vide}
use Rattle.descriptions.specs.Descriptions.{descriptions}
use Rattle.references.specs.References.{references}
use Rattle.structure.specs.Track.{id_of, subtype_of, scale_of, duration_of, table_of, offset_table, elst_of, dref_of, profile_of, samples_of, chunks_of}
use Rattle.lists.specs.Lists.{up_to}
use Rattle.runs.specs.Runs.{per_sample, composition_offset}
use Rattle.words.specs.Words.{sizes, chunk_offsets, is_sync}
use Rattle.chunks.specs.Chunks.{per_chunk, description_ids}
use Rattle.edits.specs.Edits.{edits}
use Rattle.edits.specs.declared.Edit.{Edit}

pub record Track : Type 0 where
  pub id : ℕ
  pub subtype : ℕ
  pub scale : ℕ
  -- the duration that mdhd states
  pub stored_duration : ℕ
  -- for each sample: its duration; its signed composition offset, 0 without ctts; its size; whether it is sync
  pub durations : List ℕ
  pub offsets : List ℤ
  pub sizes : List ℕ
  pub syncs : List Bool
  -- for each chunk: how many samples, its description ID, its offset
  pub per_chunk : List ℕ
  pub description_ids : List ℕ
  pub chunk_offsets : List ℕ
  -- the sample descriptions, each as its own bytes
  pub descriptions : List (List ℕ)
  -- its data references, each as its own bytes. Document 02: "A track's record shall also hold its data references"
  pub references : List (List ℕ)
  -- the edit list, empty where it is absent, and its entries
  pub edit_table : List ℕ
  pub edits : List Edit
  pub profile : List ℕ

-- "each: size (at least 16)"; "In a track of subtype 'vide' a description is at least 36 bytes"
unfoldable pub least_size : ℕ → ℕ
least_size subtype = cond (eqb subtype vide) 36 16

unfoldable pub track_of : List ℕ → Track
track_of t =
    record {
      id = id_of t;
      subtype = subtype_of t;
      scale = scale_of t;
      stored_duration = duration_of t;
      durations = per_sample (table_of stts t);
      offsets = map (λ i. composition_offset (table_of ctts t) i) (up_to (samples_of t));
      sizes = sizes (table_of stsz t);
      syncs = map (λ i. is_sync (table_of stss t) (suc i)) (up_to (samples_of t));
      per_chunk = per_chunk (table_of stsc t) (chunks_of t);
      description_ids = description_ids (table_of stsc t) (chunks_of t);
      chunk_offsets = chunk_offsets (offset_table t);
      descriptions = descriptions (least_size (subtype_of t)) (table_of stsd t);
      references = references (dref_of t);
      edit_table = elst_of t;
      edits = edits (elst_of t);
      profile = profile_of t;
    }
