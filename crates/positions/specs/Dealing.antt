-- A place in the chunks before a sample.
use Rattle.std.specs.Prelude.{ℕ, suc, ◌+◌, ◌-◌, ◌<◌, min, ◌≡◌, Bool, cond, ◌&&◌, Option, Some, None, List, get_or, ltb, leb, eqb}
use Rattle.bigendian.specs.BigEndian.{u32_at}
use Rattle.atoms.specs.Atoms.{kind_of}
use Rattle.atoms.specs.Kinds.{co64}
use Rattle.lists.specs.Lists.{before, holder}
use Rattle.words.specs.Words.{sizes, chunk_offsets}
use Rattle.chunks.specs.Chunks.{per_chunk, description_ids, offset_of}
use Rattle.chunks.specs.Computed.{located_offset}
use Rattle.chunks.specs.Cursors.{Valid, readied, past, sought}
use Rattle.chunks.specs.declared.Located.{Located}
use Rattle.positions.specs.declared.dealt.Dealt.{Dealt}
use Rattle.positions.specs.declared.dealt.OffsetHead.{OffsetHead}

-- before the sample with index k, by stsc with that many chunks, the chunks' offsets cs and the samples' sizes zs: the cursor stands before the next
-- chunk, and the chunks begun have `rest` samples from k on; if there is one, it is the sample itself, in the last chunk begun
pub record DealtAt (stsc : List ℕ) (chunks : ℕ) (cs zs : List ℕ) (k : ℕ) (d : Dealt) : Type 0 where
  pub valid : Valid stsc chunks d.chunk d.cursor
  pub begun : k + d.rest ≡ before (per_chunk stsc chunks) d.chunk
  pub in_chunk : 0 < d.rest → d.chunk ≡ suc (holder (per_chunk stsc chunks) k)
  pub offset : 0 < d.rest → d.offset ≡ offset_of (per_chunk stsc chunks) cs zs k
  pub description : 0 < d.rest → d.cursor.description ≡ get_or (description_ids stsc chunks) (holder (per_chunk stsc chunks) k) 0

-- ---- as the code has it. This need not be believed: callers go by `dealt_sought`, `dealt_readied` and `dealt_moves` of `proofs/Dealing.antt`

-- what the head of the table of offsets says
abbrev pub offset_head : List ℕ → OffsetHead
offset_head offsets = record { chunks = u32_at offsets 12; long = eqb (kind_of offsets) co64 }

-- the next chunk begun, if there is one
abbrev pub begun : List ℕ → List ℕ → ℕ → Dealt → Dealt
begun stsc offsets chunks d =
    cond (leb chunks d.chunk) d
    (record {
      cursor = past 1 (readied stsc chunks d.cursor);
      chunk = d.chunk + 1;
      rest = (readied stsc chunks d.cursor).per;
      offset = get_or (chunk_offsets offsets) d.chunk 0;
    })

unfoldable pub readied_dealt : List ℕ → List ℕ → ℕ → Dealt → Dealt
readied_dealt stsc offsets chunks d = cond (eqb d.rest 0) (begun stsc offsets chunks d) d

-- whether a sample lies ahead whose offset is so low that the next one fits
abbrev pub may_deal : Dealt → Bool
may_deal d = ltb 0 d.rest && ltb d.offset 9223372036854775808

abbrev pub ahead_of : Dealt → Option Dealt
ahead_of d = cond (may_deal d) (Some d) None

abbrev pub past_dealt : ℕ → Dealt → Dealt
past_dealt size d = record { cursor = d.cursor; chunk = d.chunk; rest = d.rest - 1; offset = d.offset + size }

-- before the sample with index k: its chunk begun, or all of them where it is in none; the offset is of 64 bits
unfoldable pub sought_dealt : List ℕ → List ℕ → List ℕ → ℕ → ℕ → Dealt
sought_dealt stsc stsz offsets chunks k =
    let r = sought stsc chunks k in
    let place : Located = record { chunk = r.chunk; within = r.within; description = r.cursor.description } in
    record {
      cursor = past 1 r.cursor;
      chunk = min (r.chunk + 1) chunks;
      rest = r.cursor.per - r.within;
      offset = min (located_offset (chunk_offsets offsets) (sizes stsz) place k) 18446744073709551615;
    }
