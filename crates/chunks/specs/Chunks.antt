-- Samples dealt to chunks: stsc with stco or co64, and stsz. Chunks are numbered from 1 in stsc; elsewhere a chunk and a sample are named by their
-- index from 0.
use Rattle.std.specs.Prelude.{ℕ, ◌+◌, ◌-◌, Bool, true, false, cond, not, ◌&&◌, ◌||◌, List, [], ◌∷◌, map, get_or, take, drop, ltb, leb, eqb}
use Rattle.bigendian.specs.BigEndian.{u32_at}
use Rattle.lists.specs.Lists.{sum, before, between, Run, expand, holder}
use Rattle.lists.specs.Entries.{rows_of, entries}

-- an entry: "first chunk, samples per chunk, description ID"
pub record Deal : Type 0 where
  pub first : ℕ
  pub per : ℕ
  pub id : ℕ

abbrev pub deal_of : List ℕ → Deal
deal_of e = record { first = u32_at e 0; per = u32_at e 4; id = u32_at e 8 }

-- the entries that stand one after the other in a part
unfoldable pub deals_in : List ℕ → List Deal
deals_in t = map deal_of (rows_of 12 t)

-- the entries of a table: "16+12n"
unfoldable pub deals : List ℕ → List Deal
deals s = map deal_of (entries 16 12 s)

-- the chunk at which some entries begin; where there are none, one past the last chunk
abbrev pub first_of : ℕ → List Deal → ℕ
first_of chunks [] = chunks + 1
first_of chunks (e ∷ es) = e.first

-- "An stsc entry holds from its first chunk up to the next entry's, the last one for all that remain": each with the number that f takes from it.
-- An entry that begins no earlier than the next one holds for no chunk
abbrev pub chunk_runs : (Deal → ℕ) → ℕ → List Deal → List Run
chunk_runs f chunks [] = []
chunk_runs f chunks (e ∷ es) = record { count = first_of chunks es - e.first; value = f e } ∷ chunk_runs f chunks es

-- one number for each chunk
abbrev pub dealt : (Deal → ℕ) → ℕ → List Deal → List ℕ
dealt f chunks es = expand (chunk_runs f chunks es)

-- how many samples each chunk has, and its description ID
unfoldable pub per_chunk : List ℕ → ℕ → List ℕ
per_chunk s chunks = dealt (λ e. e.per) chunks (deals s)

unfoldable pub description_ids : List ℕ → ℕ → List ℕ
description_ids s chunks = dealt (λ e. e.id) chunks (deals s)

-- ---- the part of refusal 9 that speaks of stsc alone, with C chunks

abbrev pub is_empty : List Deal → Bool
is_empty [] = true
is_empty (e ∷ es) = false

-- whether f says so of an entry
abbrev pub any : (Deal → Bool) → List Deal → Bool
any f [] = false
any f (e ∷ es) = f e || any f es

-- "doesn't start at chunk 1"
abbrev pub starts_elsewhere : List Deal → Bool
starts_elsewhere [] = false
starts_elsewhere (e ∷ es) = not (eqb e.first 1)

-- "isn't strictly rising"
abbrev pub not_rising : List Deal → Bool
not_rising [] = false
not_rising (e ∷ []) = false
not_rising (e ∷ (f ∷ es)) = leb f.first e.first || not_rising (f ∷ es)

-- "passes C"
abbrev pub passes : ℕ → Deal → Bool
passes chunks e = ltb chunks e.first

-- "C is 0 with stsc not empty"
abbrev pub without_chunks : ℕ → List Deal → Bool
without_chunks chunks es = eqb chunks 0 && not (is_empty es)

-- "C is above 0 and stsc is empty, doesn't start at chunk 1, isn't strictly rising, or passes C"
abbrev pub with_chunks : ℕ → List Deal → Bool
with_chunks chunks es = ltb 0 chunks && (is_empty es || (starts_elsewhere es || (not_rising es || any (passes chunks) es)))

-- "an entry has 0 samples per chunk"
abbrev pub deals_none : Deal → Bool
deals_none e = eqb e.per 0

-- "an ID is 0 or above the number of descriptions"
abbrev pub wrong_description_id : ℕ → Deal → Bool
wrong_description_id descriptions e = eqb e.id 0 || ltb descriptions e.id

unfoldable pub deals_contradict : List ℕ → ℕ → ℕ → Bool
deals_contradict s chunks descriptions =
    without_chunks chunks (deals s) || (with_chunks chunks (deals s) || (any deals_none (deals s) || any (wrong_description_id descriptions) (deals s)))

-- ---- what is asked of the lists

-- the offset of the sample with index i, with the chunks' samples and offsets and the samples' sizes: "chunk offset plus sizes before it in the
-- chunk"
unfoldable pub offset_of : List ℕ → List ℕ → List ℕ → ℕ → ℕ
offset_of ps cs zs i = get_or cs (holder ps i) 0 + between zs (before ps (holder ps i)) i

-- whether each chunk ends within a limit, not so if "a chunk's offset plus the sizes of its samples passes the file's end" (refusal 12): chunk
-- after chunk gets the next samples
abbrev pub end_within : ℕ → List ℕ → List ℕ → List ℕ → Bool
end_within limit [] cs zs = true
end_within limit (p ∷ ps) cs zs = cond (ltb limit (get_or cs 0 0 + sum (take p zs))) false (end_within limit ps (drop 1 cs) (drop p zs))
