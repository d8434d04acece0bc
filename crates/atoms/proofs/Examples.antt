-- The rule of sizes on small files, by computation: whether atoms fill every body of the tree.
-- Assumes nothing.
use Prim.Native.Nat.{ℕ}
use mathlib.Core.List.{List, [], ◌∷◌, ◌++◌, map}
use mathlib.Core.Path.{◌≡◌, refl}
use mathlib.Core.Bool.{Bool, true, false}
use Rattle.bigendian.specs.BigEndian.{be_at}
use Rattle.atoms.specs.Kinds.{container, file}
use Rattle.atoms.specs.Pieces.{pieces_after, total, filled_by, fitting}
use Rattle.atoms.specs.Atoms.{header_of, body_of, size_inside, size_top, size_in, filled}
use Rattle.atoms.specs.Tree.{all, everywhere}

-- a header with a size below 256; the second half of a header with a 64-bit size
abbrev free : ℕ → List ℕ
free z = 0 ∷ 0 ∷ 0 ∷ z ∷ 102 ∷ 114 ∷ 101 ∷ 101 ∷ []

abbrev moov : ℕ → List ℕ
moov z = 0 ∷ 0 ∷ 0 ∷ z ∷ 109 ∷ 111 ∷ 111 ∷ 118 ∷ []

abbrev trak : ℕ → List ℕ
trak z = 0 ∷ 0 ∷ 0 ∷ z ∷ 116 ∷ 114 ∷ 97 ∷ 107 ∷ []

abbrev wide : ℕ → ℕ → List ℕ
wide top z = top ∷ 0 ∷ 0 ∷ 0 ∷ 0 ∷ 0 ∷ 0 ∷ z ∷ []

abbrev cases : List (List ℕ × Bool)
cases =
    -- nothing; one atom; two
    ([], true)
    ∷ (free 8, true)
    ∷ (free 8 ++ free 8, true)
    -- a size of 7; one that passes the end; one and seven bytes that remain
    ∷ (free 7, false)
    ∷ (free 9, false)
    ∷ (free 8 ++ (0 ∷ []), false)
    ∷ (free 8 ++ (0 ∷ 0 ∷ 0 ∷ 8 ∷ 102 ∷ 114 ∷ 101 ∷ []), false)
    -- size 0 at top level, with and without a body, and inside
    ∷ (free 0 ++ (1 ∷ 2 ∷ 3 ∷ []), true)
    ∷ (free 8 ++ free 0, true)
    ∷ (moov 16 ++ free 0, false)
    -- a 64-bit size; below 16; one that needs all its bits; cut off after 8 and after 15 bytes; inside
    ∷ (free 1 ++ wide 0 16, true)
    ∷ (free 1 ++ wide 0 15, false)
    ∷ (free 1 ++ wide 128 16, false)
    ∷ (free 1, false)
    ∷ (free 1 ++ (0 ∷ 0 ∷ 0 ∷ 0 ∷ 0 ∷ 0 ∷ 0 ∷ []), false)
    ∷ (moov 24 ++ (free 1 ++ wide 0 16), false)
    -- a moov of either form is looked into
    ∷ (moov 1 ++ (wide 0 24 ++ free 8), true)
    ∷ (moov 1 ++ (wide 0 24 ++ free 7), false)
    ∷ (moov 0 ++ free 8, true)
    ∷ (moov 0 ++ free 9, false)
    -- so is a second one
    ∷ (moov 8 ++ (moov 16 ++ free 7), false)
    -- a trak is a container in moov, and a leaf at top level and in another trak
    ∷ (moov 19 ++ (trak 11 ++ (1 ∷ 2 ∷ 3 ∷ [])), false)
    ∷ (trak 11 ++ (1 ∷ 2 ∷ 3 ∷ []), true)
    ∷ (moov 27 ++ (trak 19 ++ (trak 11 ++ (1 ∷ 2 ∷ 3 ∷ []))), true)
    ∷ []

results : map (λ e. everywhere filled 6 file e.0) cases ≡ map (λ e. e.1) cases
unfolding be_at container pieces_after total filled_by fitting header_of body_of size_inside size_top size_in all everywhere
results = refl
