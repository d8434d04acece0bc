-- Document 02, Ask 13, "Closing up wasteful tables" (compaction in this project): "the fewest entries that deal out the same samples". An entry is
-- the list of its bytes.
use Rattle.std.specs.Prelude.{ℕ, ◌+◌, List, [], ◌∷◌, ◌++◌, Bool, cond, ◌&&◌, take, drop, eqb}
use Rattle.bigendian.specs.BigEndian.{u32_at}
use Rattle.byte_writing.specs.Bytes.{be32}

-- ---- stts: "Some cameras write a run for every sample."

-- the entry e with the count n; its duration is copied
unfoldable pub with_count : ℕ → List ℕ → List ℕ
with_count n e = be32 n ++ take 4 (drop 4 e)

-- neighbours with the same duration become one entry, their counts added: n samples so far with the duration of e
unfoldable pub runs_from : ℕ → List ℕ → List (List ℕ) → List (List ℕ)
runs_from n e [] = with_count n e ∷ []
runs_from n e (x ∷ xs) =
    cond (eqb (u32_at e 4) (u32_at x 4)) (runs_from (n + u32_at x 0) e xs) (with_count n e ∷ runs_from (u32_at x 0) x xs)

unfoldable pub compact_runs : List (List ℕ) → List (List ℕ)
compact_runs [] = []
compact_runs (e ∷ es) = runs_from (u32_at e 0) e es

-- ---- stsc: an entry holds up to the next entry's first chunk

-- the same samples per chunk and the same description ID
unfoldable pub same_deal : List ℕ → List ℕ → Bool
same_deal e x = eqb (u32_at e 4) (u32_at x 4) && eqb (u32_at e 8) (u32_at x 8)

-- an entry that repeats the one before, which is e, is left out; the others keep their first chunk
unfoldable pub deals_from : List ℕ → List (List ℕ) → List (List ℕ)
deals_from e [] = []
deals_from e (x ∷ xs) = cond (same_deal e x) (deals_from e xs) (x ∷ deals_from x xs)

unfoldable pub compact_deals : List (List ℕ) → List (List ℕ)
compact_deals [] = []
compact_deals (e ∷ es) = e ∷ deals_from e es
