-- The lists of a track that is asked and not refused: as many durations as sizes, as many samples dealt, as many chunks as offsets, and a sample in each chunk.
-- Assumes nothing.
use Prim.Native.Nat.{ℕ, ◌<◌}
use mathlib.Core.Path.{◌≡◌, refl, ap, ◌∙◌}
use mathlib.Core.Bool.{Bool, true, false}
use mathlib.Core.List.{List}
use native.Mathlib.Omega.{arith}
use lib.ListN.{length, get_or, drop, length-drop}
use lib.Dec.{eqb}
use Rattle.atoms.specs.Atoms.{kind_of}
use Rattle.bigendian.specs.BigEndian.{u32_at}
use Rattle.atoms.specs.Kinds.{stsc, co64}
use Rattle.lists.specs.Lists.{sum}
use Rattle.words.specs.Words.{sizes, numbers_in, width_of, chunk_offsets}
use Rattle.words.proofs.Turns.{offsets_of, width_above, length_numbers}
use Rattle.chunks.proofs.Agreed.{samples_length, samples_some}
use Rattle.structure.specs.declared.source.Source.{Source}
use Rattle.structure.specs.Track.{table_of, offset_table, samples_of, chunks_of, descriptions_of}
use Rattle.shape.proofs.Shaped.{Entered, Shaped}
use Rattle.track.specs.Track.{Track, track_of}
use Rattle.track.proofs.Agreed.{agreed_tables}
use Rattle.questions.specs.Asked.{ask_refusal, track_asked}
use Rattle.questions.proofs.Asking.{asked, sizes_count}

-- the lists of the track that is asked, one number for each sample or chunk
abbrev pub tables_asked : List ℕ → ℕ → Track
tables_asked s id = track_of (track_asked s id)

-- as many chunk offsets as the table counts
offsets_count : (t : List ℕ) → Shaped t → length (chunk_offsets (offset_table t)) ≡ chunks_of t
offsets_count t h = ap length (offsets_of (offset_table t) refl refl) ∙ go (offset_table t) (eqb (kind_of (offset_table t)) co64) h.offsets_size
  where
    go : (o : List ℕ) (long : Bool) → Entered (width_of long) o → length (numbers_in (width_of long) (drop 16 o)) ≡ u32_at o 12
    go o true e = omega (arith, length_numbers 8 (width_above true) (drop 16 o), length-drop 16 o)
    go o false e = omega (arith, length_numbers 4 (width_above false) (drop 16 o), length-drop 16 o)

pub record Listed (s : List ℕ) (id : ℕ) : Type 0 where
  -- N samples
  pub sized : length (tables_asked s id).sizes ≡ samples_of (track_asked s id)
  pub timed : length (tables_asked s id).durations ≡ samples_of (track_asked s id)
  pub dealt : sum (tables_asked s id).per_chunk ≡ samples_of (track_asked s id)
  -- C chunks
  pub chunks : length (tables_asked s id).per_chunk ≡ chunks_of (track_asked s id)
  pub placed : length (tables_asked s id).chunk_offsets ≡ chunks_of (track_asked s id)
  -- each with a sample
  pub some : (c : ℕ) → c < length (tables_asked s id).per_chunk → 0 < get_or (tables_asked s id).per_chunk c 0

pub listed : (s : List ℕ) (source : Source) (id : ℕ) → ask_refusal s source id ≡ 0 → Listed s id
unfolding track_of
listed s source id e =
    let t = track_asked s id in
    let a = (asked s source id e).track in
    let g = agreed_tables t a.agree in
    let n = samples_length (table_of stsc t) (chunks_of t) (descriptions_of t) g.deals in
    record {
      sized = sizes_count t a.shape;
      timed = g.counted;
      dealt = g.dealt;
      chunks = n;
      placed = offsets_count t a.shape;
      some = λ c h. samples_some (table_of stsc t) (chunks_of t) (descriptions_of t) g.deals c (omega (arith, n));
    }
