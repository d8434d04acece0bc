-- Where a walk over the chunks of a stretch stands. These need not be believed: they are between the crate's own functions.
use Rattle.std.specs.Prelude.{ℕ, suc, ◌+◌, ◌-◌, ◌*◌, ◌/◌, ◌^◌, ◌≤◌, ◌<◌, min, ◌≡◌, cond, List, [], ◌∷◌, map, length, get_or, take, drop, eqb, ltb, leb}
use Rattle.std.proofs.lemmas.List.Edits.{sets}
use Rattle.bigendian.specs.BigEndian.{u32_at}
use Rattle.lists.specs.Lists.{sum, before, holder}
use Rattle.atoms.specs.Atoms.{kind_of}
use Rattle.atoms.specs.Kinds.{co64}
use Rattle.words.specs.Words.{sizes, chunk_offsets}
use Rattle.chunks.specs.Chunks.{per_chunk}
use Rattle.chunks.specs.Cursors.{Valid, Stands, ahead, readied, past}
use Rattle.pairs.specs.Pairs.{pair_of, touched, flat}
use Rattle.pairs.specs.declared.Pair.{Pair}
use Rattle.pairs.specs.declared.ChunkPosition.{ChunkPosition}
use Rattle.pairs.specs.declared.WholeRun.{WholeRun}

-- the pairs of the samples from i up to j, with C chunks; and their lengths
abbrev pub pairs_between : List ℕ → List ℕ → List ℕ → ℕ → ℕ → ℕ → List Pair
pairs_between stsc stsz offsets chunks i j = touched i j 0 (per_chunk stsc chunks) (chunk_offsets offsets) (sizes stsz)

abbrev pub lengths_of : List Pair → List ℕ
lengths_of qs = map (λ q. q.length) qs

-- how many: no offset and no size has a say in it
unfoldable pub count_between : List ℕ → ℕ → ℕ → ℕ → ℕ
count_between stsc chunks i j = length (touched i j 0 (per_chunk stsc chunks) [] [])

-- of chunks with so many samples each, how many begin no later than sample t: those up to its own, or all where it lies in none
abbrev pub chunks_to : List ℕ → ℕ → ℕ
chunks_to ps t = min (suc (holder ps t)) (length ps)

-- both numbers of each pair are below b: 2 ^ 32 or 2 ^ 64, by the room
abbrev pub Fitting : ℕ → List Pair → Type 0
Fitting b [] = Unit
Fitting b (q ∷ qs) = (q.offset < b) × (q.length < b) × Fitting b qs

-- what is asked where pairs are put into so many places
pub record Putting (b : ℕ) (stsc stsz offsets : List ℕ) (chunks i j places : ℕ) : Type 0 where
  pub short : length stsc < 2 ^ 32
  pub fits : Fitting b (pairs_between stsc stsz offsets chunks i j)
  pub total : sum (lengths_of (pairs_between stsc stsz offsets chunks i j)) < 2 ^ 64
  pub room : 2 * length (pairs_between stsc stsz offsets chunks i j) ≤ places

-- the pairs of the chunks from a place on
abbrev pub pairs_ahead : List ℕ → List ℕ → List ℕ → ℕ → ℕ → ℕ → ChunkPosition → List Pair
pairs_ahead stsc stsz offsets chunks i j p =
    touched i j p.begin (ahead stsc chunks p.cursor) (drop p.chunk (chunk_offsets offsets)) (sizes stsz)

-- a place before a chunk, if one is ahead, whose samples begin at the place's own; sample i does not lie behind that chunk
pub record At (stsc : List ℕ) (chunks i : ℕ) (p : ChunkPosition) : Type 0 where
  pub valid : Valid stsc chunks p.chunk p.cursor
  pub stands : Stands stsc p.cursor
  pub begins : p.begin ≡ before (per_chunk stsc chunks) p.chunk
  pub reaches : (p.cursor.remaining ≡ 0 → ⊥) → i < p.begin + p.cursor.per

-- before the next chunk
abbrev pub place_after : List ℕ → ℕ → ChunkPosition → ChunkPosition
place_after stsc chunks p =
    record { cursor = readied stsc chunks (past 1 p.cursor); chunk = p.chunk + 1; begin = p.begin + p.cursor.per }

-- before the chunk that is n further on in the same run
abbrev pub place_past : List ℕ → ℕ → ℕ → ChunkPosition → ChunkPosition
place_past stsc chunks n p =
    record { cursor = readied stsc chunks (past n p.cursor); chunk = p.chunk + n; begin = p.begin + n * p.cursor.per }

-- before the chunk of sample i
pub record StartsAt (stsc : List ℕ) (chunks i : ℕ) (p : ChunkPosition) : Type 0 where
  pub place : p.chunk ≡ holder (per_chunk stsc chunks) i
  pub at : At stsc chunks i p

-- ---- several chunks at once

-- the pairs of whole chunks of p samples each, by their offsets and the sizes of the samples ahead; and of chunks that have so many bytes each
abbrev pub wholes : ℕ → List ℕ → List ℕ → List Pair
wholes p [] zs = []
wholes p (c ∷ cs) zs = record { offset = c; length = sum (take p zs) } ∷ wholes p cs (drop p zs)

abbrev pub equal_length_pairs : ℕ → List ℕ → List Pair
equal_length_pairs bytes cs = map (λ c. record { offset = c; length = bytes }) cs

-- the same by what the chunks have in common, which says which of the two it is; and the first of them
abbrev pub first_pair : WholeRun → List ℕ → List ℕ → Pair
first_pair r cs zs = record { offset = get_or cs 0 0; length = cond r.listed (sum (take r.per zs)) r.bytes }

abbrev pub run_pairs : WholeRun → List ℕ → List ℕ → List Pair
run_pairs r [] zs = []
run_pairs r (c ∷ cs) zs = first_pair r (c ∷ cs) zs ∷ run_pairs r cs (drop r.per zs)

-- what the chunks of the run at a place have in common
abbrev pub run_at : List ℕ → List ℕ → ChunkPosition → WholeRun
run_at stsz offsets p =
    record {
      long = eqb (kind_of offsets) co64;
      listed = eqb (u32_at stsz 12) 0;
      per = p.cursor.per;
      bytes = p.cursor.per * u32_at stsz 12;
    }

-- n chunks of the run at a place are asked for whole; their offsets are there, and their sizes, where these are common
pub record Whole (stsz offsets : List ℕ) (i j : ℕ) (p : ChunkPosition) (n : ℕ) : Type 0 where
  pub from : i ≤ p.begin
  pub to : p.begin + n * p.cursor.per ≤ j
  pub there : p.chunk + n ≤ length (chunk_offsets offsets)
  pub common : (u32_at stsz 12 ≡ 0 → ⊥) → p.begin + n * p.cursor.per ≤ u32_at stsz 16

-- n chunks of the run are put at once: one, of whatever is asked for of it, or some whole ones
pub record AtOnce (stsz offsets : List ℕ) (i j : ℕ) (p : ChunkPosition) (n : ℕ) : Type 0 where
  pub some : 0 < n
  pub few : n ≤ p.cursor.remaining
  pub whole : (n ≡ 1 → ⊥) → Whole stsz offsets i j p n

-- up to which sample chunks can be put at once; how many of n chunks, with p samples each, end by the sample `end`
abbrev pub whole_end : List ℕ → ℕ → ℕ
whole_end stsz j = cond (eqb (u32_at stsz 12) 0) j (cond (ltb (u32_at stsz 16) j) (u32_at stsz 16) j)

abbrev pub whole_chunks : ℕ → ℕ → ℕ → ℕ → ℕ
whole_chunks n p begin end = cond (ltb 4294967295 n) 0 (cond (leb end begin) 0 (cond (leb (n * p) (end - begin)) n ((end - begin) / p)))

-- n chunks from that one on, where there are some and so many offsets reach past them; else one
abbrev pub all_or_one : ℕ → ℕ → ℕ → ℕ
all_or_one n there chunk = cond (eqb n 0) 1 (cond (ltb there (chunk + n)) 1 n)

-- how many chunks of the run at a place are put at once: all that are asked for whole, or one; and the same where the sizes are common
unfoldable pub chunks_at_once : List ℕ → List ℕ → ℕ → ℕ → ChunkPosition → ℕ
chunks_at_once stsz offsets i j p =
    cond (eqb p.cursor.remaining 1) 1
    (cond (ltb p.begin i) 1
    (all_or_one (whole_chunks p.cursor.remaining p.cursor.per p.begin (whole_end stsz j)) (length (chunk_offsets offsets)) p.chunk))

unfoldable pub common_at_once : List ℕ → List ℕ → ℕ → ℕ → ChunkPosition → ℕ
common_at_once stsz offsets i j p = cond (eqb (u32_at stsz 12) 0) 1 (chunks_at_once stsz offsets i j p)

-- the pairs of these
abbrev pub wholes_at : List ℕ → List ℕ → ChunkPosition → ℕ → List Pair
wholes_at stsz offsets p n = wholes p.cursor.per (take n (drop p.chunk (chunk_offsets offsets))) (drop p.begin (sizes stsz))

abbrev pub pairs_at_once : List ℕ → List ℕ → ℕ → ℕ → ChunkPosition → ℕ → List Pair
pairs_at_once stsz offsets i j p n =
    cond (eqb n 1) (pair_of i j p.begin p.cursor.per (get_or (chunk_offsets offsets) p.chunk 0) (sizes stsz) ∷ []) (wholes_at stsz offsets p n)

-- some pairs, their numbers below b, can be put into so many places, from the place `at` on
pub record Room (b : ℕ) (qs : List Pair) (at places : ℕ) : Type 0 where
  pub fits : Fitting b qs
  pub total : sum (lengths_of qs) < 2 ^ 64
  pub space : at + 2 * length qs ≤ places

-- and were put, their lengths being added to `bytes`
pub record Put (qs : List Pair) (room : List ℕ) (at bytes : ℕ) (after : List ℕ) : Type 0 where
  pub added : bytes ≡ sum (lengths_of qs)
  pub stored : after ≡ sets room at (flat qs)
