-- A track, from the body t of its trak: where its tables stand, and its fields. "Offsets count from the atom's first byte".
use Rattle.std.specs.Prelude.{ℕ, List, cond, length, eqb}
use Rattle.bigendian.specs.BigEndian.{u32_at}
use Rattle.atoms.specs.Kinds.{trak, edts, mdia, minf, dinf, stbl, tkhd, mdhd, hdlr, dref, stsd, stsz, stco, co64, elst}
use Rattle.atoms.specs.Atoms.{child_in, body_in}
use Rattle.structure.specs.Profile.{profile_in}

unfoldable pub mdia_of : List ℕ → List ℕ
mdia_of t = body_in trak mdia 0 t

unfoldable pub minf_of : List ℕ → List ℕ
minf_of t = body_in mdia minf 0 (mdia_of t)

unfoldable pub stbl_of : List ℕ → List ℕ
stbl_of t = body_in minf stbl 0 (minf_of t)

-- the sample table of kind k; empty where it is absent
unfoldable pub table_of : ℕ → List ℕ → List ℕ
table_of k t = child_in stbl k 0 (stbl_of t)

-- the table of chunk offsets. Document 02: "Chunk offsets may then come from 'co64' (16+8n) in place of stco": stco, and where there is none co64
unfoldable pub offset_table : List ℕ → List ℕ
offset_table t = cond (eqb (length (table_of stco t)) 0) (table_of co64 t) (table_of stco t)

-- the edit list; empty where it is absent
unfoldable pub elst_of : List ℕ → List ℕ
elst_of t = child_in edts elst 0 (body_in trak edts 0 t)

-- its data references, as a dref; empty where it is absent. Document 02: "one 'dinf' container in minf, one read leaf 'dref' in it"
unfoldable pub dref_of : List ℕ → List ℕ
dref_of t = child_in dinf dref 0 (body_in minf dinf 0 (minf_of t))

-- "track ID 20"
unfoldable pub id_of : List ℕ → ℕ
id_of t = u32_at (child_in trak tkhd 0 t) 20

-- "time scale 20, duration 24"
unfoldable pub scale_of : List ℕ → ℕ
scale_of t = u32_at (child_in mdia mdhd 0 (mdia_of t)) 20

unfoldable pub duration_of : List ℕ → ℕ
duration_of t = u32_at (child_in mdia mdhd 0 (mdia_of t)) 24

-- "component subtype 16"
unfoldable pub subtype_of : List ℕ → ℕ
subtype_of t = u32_at (child_in mdia hdlr 0 (mdia_of t)) 16

-- the numbers of samples, chunks, edits, descriptions and data references that the tables state; none where a table is absent
abbrev pub samples_of : List ℕ → ℕ
samples_of t = u32_at (table_of stsz t) 16

abbrev pub chunks_of : List ℕ → ℕ
chunks_of t = u32_at (offset_table t) 12

abbrev pub edits_of : List ℕ → ℕ
edits_of t = u32_at (elst_of t) 12

abbrev pub descriptions_of : List ℕ → ℕ
descriptions_of t = u32_at (table_of stsd t) 12

-- document 02: "count at 12"
abbrev pub references_of : List ℕ → ℕ
references_of t = u32_at (dref_of t) 12

-- its profile; empty where it has none
unfoldable pub profile_of : List ℕ → List ℕ
profile_of t = profile_in trak tkhd t
