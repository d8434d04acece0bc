-- Document 02, Ask 6. The data references of a dref, and whether the samples of every description are in the film's own file.
-- Offsets in an entry "count from" its own first byte.
use Rattle.std.specs.Prelude.{ℕ, ◌-◌, ◌%◌, List, [], Bool, not, ◌&&◌, get_or, drop, eqb}
use Rattle.bigendian.specs.BigEndian.{u16_at}
use Rattle.atoms.specs.Pieces.{pieces}
use Rattle.atoms.specs.Tree.{all}
use Rattle.leaves.specs.Leaves.{size_entry}

-- "count at 12, then entries of size at least 12, type, version and flags, filling it exactly": what follows the first 16 bytes, cut by
-- the sizes that it states. An absent dref is no bytes and has none
abbrev pub references : List ℕ → List (List ℕ)
references dref = pieces (size_entry 12) (drop 16 dref)

-- "whose lowest flag bit is set, meaning this file": an entry is its size, its type, a version byte and three flag bytes, so the lowest
-- flag bit is in the byte at 11. The version is not looked at. No bytes are no entry and mean no file
unfoldable pub is_this_file : List ℕ → Bool
is_this_file r = eqb (get_or r 11 0 % 2) 1

-- "Each description's reference index (16 bits at 14, counted from 1)"
abbrev pub index_of : List ℕ → ℕ
index_of d = u16_at d 14

-- "must name an entry whose lowest flag bit is set": an index of 0, or past the last entry, names none
unfoldable pub names_this_file : List (List ℕ) → ℕ → Bool
names_this_file rs k = not (eqb k 0) && is_this_file (get_or rs (k - 1) [])

-- the same of every description, used or not
unfoldable pub all_in_this_file : List (List ℕ) → List (List ℕ) → Bool
all_in_this_file rs ds = all (λ d. names_this_file rs (index_of d)) ds
