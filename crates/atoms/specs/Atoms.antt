-- The atoms of a body. A body is the list of its bytes, and an atom the list of its own bytes, its header included.
use Rattle.std.specs.Prelude.{ℕ, List, [], ◌∷◌, Bool, cond, length, get_or, drop, ltb, eqb}
use Rattle.bigendian.specs.BigEndian.{u32_at, u64_at}
use Rattle.atoms.specs.Kinds.{file}
use Rattle.atoms.specs.Pieces.{pieces, filled_by, fitting}

-- "An atom is a 32-bit size counting itself, a 32-bit type, then its body."
abbrev pub kind_of : List ℕ → ℕ
kind_of a = u32_at a 4

-- the length of its header. "size 1 means that a 64-bit size follows the type (header 16 bytes ..)": only an atom at top level can
-- have size 1, so the atom itself tells
unfoldable pub header_of : List ℕ → ℕ
header_of a = cond (eqb (u32_at a 0) 1) 16 8

-- what follows its header
unfoldable pub body_of : List ℕ → List ℕ
body_of a = drop (header_of a) a

-- the size of the atom that s begins with, where s stands inside an atom; 0 where s does not begin with a whole atom.
-- "Otherwise the size is at least 8." 0 and 1 have no meaning of their own here
unfoldable pub size_inside : List ℕ → ℕ
size_inside s = cond (ltb (length s) 8) 0 (fitting 8 (u32_at s 0) s)

-- the same at top level. "At top level only, size 1 means that a 64-bit size follows the type (header 16 bytes, size at least
-- 16), and size 0 means up to the end of the file."
unfoldable pub size_top : List ℕ → ℕ
size_top s =
    cond (ltb (length s) 8) 0
    (cond (eqb (u32_at s 0) 0) (length s)
    (cond (eqb (u32_at s 0) 1) (cond (ltb (length s) 16) 0 (fitting 16 (u64_at s 8) s))
    (fitting 8 (u32_at s 0) s)))

-- the same where s stands in the parent p
unfoldable pub size_in : ℕ → List ℕ → ℕ
size_in p s = cond (eqb p file) (size_top s) (size_inside s)

-- the atoms of the body s of the parent p
abbrev pub atoms : ℕ → List ℕ → List (List ℕ)
atoms p s = pieces (size_in p) s

-- "Children fill their parent exactly."
abbrev pub filled : ℕ → List ℕ → Bool
filled p s = filled_by (size_in p) s

-- those of the atoms that are of kind k, in order
unfoldable pub of_kind : ℕ → List (List ℕ) → List (List ℕ)
of_kind k [] = []
of_kind k (a ∷ l) = cond (eqb (kind_of a) k) (a ∷ of_kind k l) (of_kind k l)

-- how many atoms of kind k the body s of the parent p has
abbrev pub count_in : ℕ → ℕ → List ℕ → ℕ
count_in p k s = length (of_kind k (atoms p s))

-- the one at i of them, counted from 0; empty where there are no more than i
abbrev pub child_in : ℕ → ℕ → ℕ → List ℕ → List ℕ
child_in p k i s = get_or (of_kind k (atoms p s)) i []

-- its body
abbrev pub body_in : ℕ → ℕ → ℕ → List ℕ → List ℕ
body_in p k i s = body_of (child_in p k i s)
