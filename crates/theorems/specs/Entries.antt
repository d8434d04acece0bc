-- The entries of a track's tables as they stand in the file, read by their places alone; t is the body of the track's trak. "Offsets count from
-- the atom's first byte". Entries are counted from 0, chunks and samples from 1.
use Rattle.std.specs.Prelude.{ℕ, ◌+◌, ◌-◌, ◌*◌, List, map, cond, length, eqb}
use Rattle.bigendian.specs.BigEndian.{u32_at, u64_at}
use Rattle.atoms.specs.Kinds.{stts, stsc, stsz, stco, co64}
use Rattle.lists.specs.Lists.{sum, up_to}
use Rattle.structure.specs.Track.{table_of}

-- stts: "n at 12; sample count, duration"
abbrev pub stts_entries : List ℕ → ℕ
stts_entries t = u32_at (table_of stts t) 12

abbrev pub sample_count : List ℕ → ℕ → ℕ
sample_count t k = u32_at (table_of stts t) (16 + 8 * k)

abbrev pub sample_duration : List ℕ → ℕ → ℕ
sample_duration t k = u32_at (table_of stts t) (20 + 8 * k)

-- stsc: "n at 12; first chunk, samples per chunk, description ID"
abbrev pub stsc_entries : List ℕ → ℕ
stsc_entries t = u32_at (table_of stsc t) 12

abbrev pub first_chunk : List ℕ → ℕ → ℕ
first_chunk t k = u32_at (table_of stsc t) (16 + 12 * k)

abbrev pub samples_per_chunk : List ℕ → ℕ → ℕ
samples_per_chunk t k = u32_at (table_of stsc t) (20 + 12 * k)

-- the offset of the chunk with the number c: in stco ("16+4n"), or where there is none "from 'co64' (16+8n) in place of stco"
abbrev pub chunk_offset : List ℕ → ℕ → ℕ
chunk_offset t c =
    cond (eqb (length (table_of stco t)) 0) (u64_at (table_of co64 t) (16 + 8 * (c - 1)))
    (u32_at (table_of stco t) (16 + 4 * (c - 1)))

-- stsz: "common size 12, n at 16; sizes only if the common size is 0": the size of the sample with the number n; there are N (`samples_of`)
abbrev pub sample_size : List ℕ → ℕ → ℕ
sample_size t n = cond (eqb (u32_at (table_of stsz t) 12) 0) (u32_at (table_of stsz t) (20 + 4 * (n - 1))) (u32_at (table_of stsz t) 12)

-- how many samples the first k entries of stts count
abbrev pub counted_by : List ℕ → ℕ → ℕ
counted_by t k = sum (map (sample_count t) (up_to k))

-- "its totals are those of the entries in the file": count times duration, over all entries of stts
abbrev pub media_total : List ℕ → ℕ
media_total t = sum (map (λ k. sample_count t k * sample_duration t k) (up_to (stts_entries t)))
