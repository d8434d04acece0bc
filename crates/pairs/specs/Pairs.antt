-- The byte ranges of some samples: "One pair (offset, length) for each chunk touched, in chunk order". Samples are named by their index from 0,
-- from i up to, not including, j.
use Rattle.std.specs.Prelude.{ℕ, ◌+◌, min, max, Bool, cond, ◌&&◌, List, [], ◌∷◌, get_or, drop, ltb}
use Rattle.lists.specs.Lists.{between}
use Rattle.pairs.specs.declared.Pair.{Pair}

-- of a chunk whose first sample has the index `begin` and which has p samples: whether one of them is among those from i up to j
abbrev pub is_touched : ℕ → ℕ → ℕ → ℕ → Bool
is_touched i j begin p = ltb begin j && ltb i (begin + p)

-- where those of its samples begin in the file, its offset being c, and how many bytes they have
unfoldable pub pair_of : ℕ → ℕ → ℕ → ℕ → ℕ → List ℕ → Pair
pair_of i j begin p c zs =
    record {
      offset = c + between zs begin (max i begin);
      length = between zs (max i begin) (min j (begin + p));
    }

-- chunk after chunk, with the samples of each, their offsets and the sizes of all samples; the first of these chunks begins at sample `begin`
abbrev pub touched : ℕ → ℕ → ℕ → List ℕ → List ℕ → List ℕ → List Pair
touched i j begin [] cs zs = []
touched i j begin (p ∷ ps) cs zs =
    cond (is_touched i j begin p)
    (pair_of i j begin p (get_or cs 0 0) zs ∷ touched i j (begin + p) ps (drop 1 cs) zs)
    (touched i j (begin + p) ps (drop 1 cs) zs)

-- the numbers of some pairs, "fields in the order given"
abbrev pub flat : List Pair → List ℕ
flat [] = []
flat (q ∷ qs) = q.offset ∷ q.length ∷ flat qs
