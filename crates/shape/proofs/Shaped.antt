-- What holds of a film that is not refused, of its movie and of each track, by name: the facts that a reader of the tables goes by. They
-- are shown in Callers.
-- Assumes nothing.
use Prim.Native.Nat.{ℕ, ◌+◌, ◌*◌, ◌^◌, ◌≤◌, ◌<◌}
use mathlib.Core.Path.{◌≡◌}
use mathlib.Core.Logic.{◌⊎◌}
use mathlib.Core.List.{List, []}
use mathlib.Core.Bool.{true, cond}
use lib.ListN.{length}
use lib.Dec.{eqb}
use Rattle.bigendian.specs.BigEndian.{u32_at}
use Rattle.atoms.specs.Kinds.{file, moov, trak, edts, mdia, minf, dinf, stbl, mvhd, tkhd, mdhd, hdlr, dref, elst, stts, ctts, stsc, stsz, co64, stss, stsd, vide}
use Rattle.atoms.specs.Atoms.{kind_of, child_in, body_in, count_in, filled}
use Rattle.atoms.specs.Tree.{everywhere}
use Rattle.leaves.specs.Leaves.{sized_entries}
use Rattle.structure.specs.declared.source.Source.{Source}
use Rattle.structure.specs.Source.{length_of}
use Rattle.structure.specs.Track.{mdia_of, minf_of, stbl_of, table_of, offset_table, elst_of, subtype_of, samples_of, chunks_of, edits_of, descriptions_of, dref_of, references_of, profile_of}
use Rattle.structure.specs.Movie.{moov_of, tracks_of, track_at, movie_profile}

-- a table is 16 bytes and as many entries of width w as it counts
abbrev pub Entered : ℕ → List ℕ → Type 0
Entered w a = length a ≡ 16 + w * u32_at a 12

-- the same of one that may be absent
abbrev pub MayEnter : ℕ → List ℕ → Type 0
MayEnter w a = (a ≡ []) ⊎ Entered w a

-- the width of an entry in a table of chunk offsets, by the table's own type
abbrev pub offset_entry : List ℕ → ℕ
offset_entry a = cond (eqb (kind_of a) co64) 8 4

-- a track, from the body t of its trak
pub record Shaped (t : List ℕ) : Type 0 where
  pub tkhd_once : count_in trak tkhd t ≡ 1
  pub tkhd_size : length (child_in trak tkhd 0 t) ≡ 92
  pub mdia_once : count_in trak mdia t ≡ 1
  pub mdhd_once : count_in mdia mdhd (mdia_of t) ≡ 1
  pub mdhd_size : length (child_in mdia mdhd 0 (mdia_of t)) ≡ 32
  pub hdlr_once : count_in mdia hdlr (mdia_of t) ≡ 1
  pub hdlr_size : 32 ≤ length (child_in mdia hdlr 0 (mdia_of t))
  pub minf_once : count_in mdia minf (mdia_of t) ≡ 1
  pub stbl_once : count_in minf stbl (minf_of t) ≡ 1
  pub dinf_once : count_in minf dinf (minf_of t) ≡ 1
  pub dref_once : count_in dinf dref (body_in minf dinf 0 (minf_of t)) ≡ 1
  pub dref_size : sized_entries 12 (dref_of t) ≡ true
  pub stsd_once : count_in stbl stsd (stbl_of t) ≡ 1
  pub stsd_size : sized_entries 16 (table_of stsd t) ≡ true
  pub stsd_pictures : subtype_of t ≡ vide → sized_entries 36 (table_of stsd t) ≡ true
  pub stts_once : count_in stbl stts (stbl_of t) ≡ 1
  pub stts_size : Entered 8 (table_of stts t)
  pub stsc_once : count_in stbl stsc (stbl_of t) ≡ 1
  pub stsc_size : Entered 12 (table_of stsc t)
  pub stsz_once : count_in stbl stsz (stbl_of t) ≡ 1
  pub stsz_size : u32_at (table_of stsz t) 12 ≡ 0 → length (table_of stsz t) ≡ 20 + 4 * samples_of t
  pub stsz_common : (u32_at (table_of stsz t) 12 ≡ 0 → ⊥) → length (table_of stsz t) ≡ 20
  pub offsets_size : Entered (offset_entry (offset_table t)) (offset_table t)
  pub ctts_few : count_in stbl ctts (stbl_of t) ≤ 1
  pub ctts_size : MayEnter 8 (table_of ctts t)
  pub stss_few : count_in stbl stss (stbl_of t) ≤ 1
  pub stss_size : MayEnter 4 (table_of stss t)
  pub edts_few : count_in trak edts t ≤ 1
  pub elst_once : 0 < count_in trak edts t → count_in edts elst (body_in trak edts 0 t) ≡ 1
  pub elst_size : MayEnter 12 (elst_of t)
  pub profile_size : MayEnter 16 (profile_of t)
  pub few_samples : samples_of t ≤ 1048576
  pub few_chunks : chunks_of t ≤ 1048576
  pub few_edits : edits_of t ≤ 256
  pub few_descriptions : descriptions_of t ≤ 64
  pub few_records : u32_at (profile_of t) 12 ≤ 64
  pub few_references : references_of t ≤ 64

-- a movie, from the body m of its moov: `tracks` finds each by its index
pub record ShapedMovie (m : List ℕ) : Type 0 where
  pub mvhd_once : count_in moov mvhd m ≡ 1
  pub mvhd_size : length (child_in moov mvhd 0 m) ≡ 108
  pub profile_size : MayEnter 16 (movie_profile m)
  pub few_tracks : length (tracks_of m) ≤ 16
  pub few_records : u32_at (movie_profile m) 12 ≤ 64
  pub tracks : (i : ℕ) → i < length (tracks_of m) → Shaped (track_at i m)

-- a film, from the bytes lent and its source: they are no longer than its file, whose length is below 2^63
pub record ShapedFile (s : List ℕ) (w : Source) : Type 0 where
  pub short : length s ≤ 2147483647
  pub within : length s ≤ length_of w s
  pub low : length_of w s < 2 ^ 63
  pub tree : everywhere filled 6 file s ≡ true
  pub moov_once : count_in file moov s ≡ 1
  pub movie : ShapedMovie (moov_of s)
