-- A sample by the bytes of its tables, whatever these are, as the code has it. This need not be believed: `Samples` says what the question promises.
use Rattle.std.specs.Prelude.{ℕ, suc, ◌+◌, ◌-◌, min, Bool, cond, ◌&&◌, List, length, get_or, ltb, leb, ℤ, pos, ◌+ℤ◌, Result, Ok}
use Rattle.refusals.specs.declared.Refusal.{Refusal}
use Rattle.refusals.specs.Refusals.{refused}
use Rattle.lists.specs.Lists.{before, holder}
use Rattle.runs.specs.Runs.{per_sample, composition_offset}
use Rattle.runs.specs.declared.Timing.{Timing}
use Rattle.words.specs.Words.{sizes, chunk_offsets, is_sync}
use Rattle.chunks.specs.Chunks.{per_chunk, description_ids, offset_of}
use Rattle.chunks.specs.Computed.{located_offset}
use Rattle.chunks.specs.declared.Located.{Located}
use Rattle.questions.specs.declared.samples.Sample.{Sample}

-- what the tables say of the sample with index i, from 0, of that many chunks; an offset of 64 bits
unfoldable pub sample_in : List ℕ → List ℕ → List ℕ → List ℕ → List ℕ → List ℕ → ℕ → ℕ → Sample
sample_in stts ctts stsc stsz offsets stss chunks i =
    record {
      decode = before (per_sample stts) i;
      duration = get_or (per_sample stts) i 0;
      composition = pos (before (per_sample stts) i) +ℤ composition_offset ctts i;
      sync = is_sync stss (suc i);
      description = get_or (description_ids stsc chunks) (holder (per_chunk stsc chunks) i) 0;
      chunk = suc (holder (per_chunk stsc chunks) i);
      offset = min (offset_of (per_chunk stsc chunks) (chunk_offsets offsets) (sizes stsz) i) 18446744073709551615;
      size = get_or (sizes stsz) i 0;
    }

-- a decode time, the index of a chunk of that many, and an offset that are as low as in an accepted track
unfoldable pub is_low : ℕ → ℕ → ℕ → ℕ → Bool
is_low decode chunk chunks offset = ltb decode 4294967296 && (ltb chunk chunks && ltb offset 9223372036854775808)

-- a sample that is not so is refused
abbrev pub where_low : ℕ → ℕ → Sample → Result Sample Refusal
where_low chunk chunks x = cond (is_low x.decode chunk chunks x.offset) (Ok x) (refused 15)

-- the sample with index i by what was looked up of it, its times, composition offset, place and whether it is sync, with stsz and the chunk offsets
unfoldable pub found_as : Timing → ℤ → Located → Bool → List ℕ → List ℕ → ℕ → ℕ → Result Sample Refusal
found_as timing shift place sync stsz offsets chunks i =
    where_low place.chunk chunks (record {
      decode = timing.start;
      duration = timing.duration;
      composition = pos timing.start +ℤ shift;
      sync = sync;
      description = place.description;
      chunk = place.chunk + 1;
      offset = min (located_offset (chunk_offsets offsets) (sizes stsz) place i) 18446744073709551615;
      size = get_or (sizes stsz) i 0;
    })

unfoldable pub said_in : List ℕ → List ℕ → List ℕ → List ℕ → List ℕ → List ℕ → ℕ → ℕ → Result Sample Refusal
said_in stts ctts stsc stsz offsets stss chunks i =
    where_low (holder (per_chunk stsc chunks) i) chunks (sample_in stts ctts stsc stsz offsets stss chunks i)

-- whether a number of so many samples, and a table, are asked at all
abbrev pub is_asked : List ℕ → ℕ → ℕ → Bool
is_asked stsc samples n = ltb 0 n && (leb n samples && ltb (length stsc) 4294967296)

-- sample n, from 1
unfoldable pub sample_said : List ℕ → List ℕ → List ℕ → List ℕ → List ℕ → List ℕ → ℕ → ℕ → ℕ → Result Sample Refusal
sample_said stts ctts stsc stsz offsets stss samples chunks n =
    cond (is_asked stsc samples n) (said_in stts ctts stsc stsz offsets stss chunks (n - 1)) (refused 15)
