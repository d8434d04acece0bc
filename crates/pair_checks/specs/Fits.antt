-- Whether the pairs of some samples are numbers of 64 bits. These need not be believed: they are between the functions of the questions.
use Rattle.std.specs.Prelude.{ℕ, ◌+◌, Bool, true, ◌&&◌, List, [], ◌∷◌, length, get_or, ltb}
use Rattle.lists.specs.Lists.{between}
use Rattle.words.specs.Words.{sizes, chunk_offsets}
use Rattle.pairs.specs.Walks.{pairs_between}
use Rattle.pairs.specs.declared.Pair.{Pair}
use Rattle.pairs.specs.declared.ChunkPosition.{ChunkPosition}

-- both numbers of each pair are below b
abbrev pub all_fit : ℕ → List Pair → Bool
all_fit b [] = true
all_fit b (q ∷ qs) = ltb q.offset b && (ltb q.length b && all_fit b qs)

-- so are those of the pairs of the samples from i up to j, with so many chunks; stsc has fewer than 2 ^ 32 bytes
unfoldable pub pairs_fit : List ℕ → List ℕ → List ℕ → ℕ → ℕ → ℕ → Bool
pairs_fit stsc stsz offsets chunks i j = ltb (length stsc) 4294967296 && all_fit 18446744073709551616 (pairs_between stsc stsz offsets chunks i j)

-- where the sample i begins, in the chunk at a place
unfoldable pub start_fits : List ℕ → List ℕ → ChunkPosition → ℕ → Bool
start_fits stsz offsets p i = ltb (get_or (chunk_offsets offsets) p.chunk 0 + between (sizes stsz) p.begin i) 18446744073709551616
