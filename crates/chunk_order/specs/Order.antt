-- The eighth rule of the quay film profile (document 02), of the lists of a track: how its chunks stand in the file.
use Rattle.std.specs.Prelude.{ℕ, ◌+◌, Bool, true, not, ◌&&◌, List, [], ◌∷◌, get_or, take, drop, ltb, leb}
use Rattle.lists.specs.Lists.{sum}

-- a chunk: its offset, and the sizes of its samples, added
pub record Extent : Type 0 where
  pub offset : ℕ
  pub bytes : ℕ

-- the chunks, with the samples of each, the offsets and the sizes: "Chunk after chunk gets the next samples"
abbrev pub extents : List ℕ → List ℕ → List ℕ → List Extent
extents [] cs zs = []
extents (p ∷ ps) cs zs = record { offset = get_or cs 0 0; bytes = sum (take p zs) } ∷ extents ps (drop 1 cs) (drop p zs)

-- "rising order of offset with none overlapping the one before": a chunk, and the next one
abbrev pub follows : Extent → Extent → Bool
follows a b = ltb a.offset b.offset && leb (a.offset + a.bytes) b.offset

-- "chunks in rising order of offset with none overlapping the one before"
abbrev pub in_order : List Extent → Bool
in_order [] = true
in_order (a ∷ []) = true
in_order (a ∷ (b ∷ es)) = follows a b && in_order (b ∷ es)

-- broken, if they are not
unfoldable pub disordered : List ℕ → List ℕ → List ℕ → Bool
disordered ps cs zs = not (in_order (extents ps cs zs))
