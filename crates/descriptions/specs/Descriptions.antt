-- The sample descriptions of an stsd. Offsets in a description "count from" its own first byte.
use Rattle.std.specs.Prelude.{ℕ, max, List, [], ◌∷◌, drop}
use Rattle.bigendian.specs.BigEndian.{u16_at, u32_at}
use Rattle.atoms.specs.Pieces.{pieces}
use Rattle.leaves.specs.Leaves.{size_entry}
use Rattle.descriptions.specs.declared.PictureSize.{PictureSize}

-- "stsd | filled exactly by n descriptions", "each: size (at least 16), format": what follows the first 16 bytes, cut by the
-- sizes that it states, up to the first place where no whole description begins. An absent stsd is no bytes and has none
abbrev pub descriptions : ℕ → List ℕ → List (List ℕ)
descriptions least stsd = pieces (size_entry least) (drop 16 stsd)

-- "each: size (at least 16), format"
abbrev pub format_of : List ℕ → ℕ
format_of d = u32_at d 4

-- "width at 32 and height at 34, 16 bits each"
abbrev pub width_of : List ℕ → ℕ
width_of d = u16_at d 32

abbrev pub height_of : List ℕ → ℕ
height_of d = u16_at d 34

-- the greatest of a field of the descriptions; 0 where there are none
unfoldable pub greatest : (List ℕ → ℕ) → List (List ℕ) → ℕ
greatest f [] = 0
greatest f (d ∷ ds) = max (f d) (greatest f ds)

-- "In a track of subtype 'vide' a description is at least 36 bytes"
abbrev pub pictures : List ℕ → List (List ℕ)
pictures stsd = descriptions 36 stsd

-- "greatest width" and "greatest height", each taken over all descriptions
unfoldable pub picture_size : List ℕ → PictureSize
picture_size stsd = record { width = greatest width_of (pictures stsd); height = greatest height_of (pictures stsd) }
