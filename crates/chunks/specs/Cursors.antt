-- A place in stsc, by value: how many chunks remain of a run, and where the entries not yet read begin.
use Rattle.std.specs.Prelude.{ℕ, ◌+◌, ◌-◌, ◌≡◌, cond, List, [], ◌∷◌, ◌++◌, drop, replicate, eqb, ltb}
use Rattle.lists.specs.Lists.{before, holder}
use Rattle.chunks.specs.Chunks.{Deal, deals_in, deals, first_of, dealt, per_chunk, description_ids}
use Rattle.chunks.specs.declared.ChunkCursor.{ChunkCursor}
use Rattle.chunks.specs.declared.Sought.{Sought}

-- the samples of each chunk from a cursor on, and their description IDs
unfoldable pub ahead : List ℕ → ℕ → ChunkCursor → List ℕ
ahead s chunks c = replicate c.remaining c.per ++ dealt (λ e. e.per) chunks (deals_in (drop c.at s))

unfoldable pub ids_ahead : List ℕ → ℕ → ChunkCursor → List ℕ
ids_ahead s chunks c = replicate c.remaining c.description ++ dealt (λ e. e.id) chunks (deals_in (drop c.at s))

-- a cursor of this table before the chunk with index k
pub record Valid (s : List ℕ) (chunks k : ℕ) (c : ChunkCursor) : Type 0 where
  pub samples : ahead s chunks c ≡ drop k (per_chunk s chunks)
  pub descriptions : ids_ahead s chunks c ≡ drop k (description_ids s chunks)

-- a cursor that stands in a run, if a chunk is ahead: where none remains of a run, all entries are read
pub record Stands (s : List ℕ) (c : ChunkCursor) : Type 0 where
  pub all_read : c.remaining ≡ 0 → deals_in (drop c.at s) ≡ []

-- before the first entry
abbrev pub start_cursor : ChunkCursor
start_cursor = record { at = 16; remaining = 0; per = 0; description = 0 }

-- past an entry, before its chunks; es are the entries that follow it
abbrev pub loaded : ℕ → Deal → List Deal → ChunkCursor → ChunkCursor
loaded chunks e es c = record { at = c.at + 12; remaining = first_of chunks es - e.first; per = e.per; description = e.id }

-- entries are read until a chunk remains
abbrev pub readied_in : ℕ → List Deal → ChunkCursor → ChunkCursor
readied_in chunks [] c = c
readied_in chunks (e ∷ es) c = cond (eqb c.remaining 0) (readied_in chunks es (loaded chunks e es c)) c

unfoldable pub readied : List ℕ → ℕ → ChunkCursor → ChunkCursor
readied s chunks c = readied_in chunks (deals_in (drop c.at s)) c

-- past k chunks of the run
abbrev pub past : ℕ → ChunkCursor → ChunkCursor
past k c = record { at = c.at; remaining = c.remaining - k; per = c.per; description = c.description }

-- before the chunk that is k further on than c, es being the entries not yet read: they are read up to the one that holds for it, or all
abbrev pub cursor_in : ℕ → List Deal → ChunkCursor → ℕ → ChunkCursor
cursor_in chunks [] c k = past k c
cursor_in chunks (e ∷ es) c k = cond (ltb k c.remaining) (past k c) (cursor_in chunks es (loaded chunks e es c) (k - c.remaining))

-- before the chunk with index k
unfoldable pub cursor_at : List ℕ → ℕ → ℕ → ChunkCursor
cursor_at s chunks k = cursor_in chunks (deals s) start_cursor k

-- sample i: a cursor before its chunk, the index of the chunk, and its index in the chunk
unfoldable pub sought : List ℕ → ℕ → ℕ → Sought
sought s chunks i =
    let k = holder (per_chunk s chunks) i in
    record { cursor = cursor_at s chunks k; chunk = k; within = i - before (per_chunk s chunks) k }
