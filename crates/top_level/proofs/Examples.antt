-- The walk over small files, by computation: what it says, with the place and the size of the moov.
-- Assumes nothing.
use Prim.Native.Nat.{ℕ}
use mathlib.Core.List.{List, [], ◌∷◌, ◌++◌, map}
use mathlib.Core.Path.{◌≡◌, refl}
use Rattle.bigendian.specs.BigEndian.{be_at}
use Rattle.top_level.specs.declared.Next.{Next}
use Rattle.top_level.specs.declared.Next.TheVariants.{Found, Refused}
use Rattle.top_level.specs.Steps.{within, size_ahead, one_more, past, ended, stepped}
use Rattle.top_level.specs.TopLevel.{on_by, walk, walked}

-- a header with a size below 256; the second half of a header with a 64-bit size
abbrev free : ℕ → List ℕ
free z = 0 ∷ 0 ∷ 0 ∷ z ∷ 102 ∷ 114 ∷ 101 ∷ 101 ∷ []

abbrev moov : ℕ → List ℕ
moov z = 0 ∷ 0 ∷ 0 ∷ z ∷ 109 ∷ 111 ∷ 111 ∷ 118 ∷ []

abbrev wide : ℕ → List ℕ
wide z = 0 ∷ 0 ∷ 0 ∷ 0 ∷ 0 ∷ 0 ∷ 0 ∷ z ∷ []

abbrev cases : List (List ℕ × Next)
cases =
    -- nothing; no moov; one, first, last and between others
    ([], Refused 3)
    ∷ (free 8, Refused 3)
    ∷ (moov 8, Found 0 8)
    ∷ (free 8 ++ moov 8, Found 8 8)
    ∷ (free 8 ++ (moov 16 ++ (free 8 ++ free 8)), Found 8 16)
    -- a 64-bit size, and one up to the end
    ∷ (free 8 ++ (moov 1 ++ (wide 24 ++ (free 8 ++ free 8))), Found 8 24)
    ∷ (free 8 ++ (moov 0 ++ (1 ∷ 2 ∷ 3 ∷ [])), Found 8 11)
    ∷ (moov 8 ++ (free 0 ++ moov 8), Found 0 8)
    -- two; one inside another atom
    ∷ (moov 8 ++ moov 8, Refused 3)
    ∷ (free 16 ++ moov 8, Refused 3)
    -- a size that is wrong, also after two moovs
    ∷ (moov 8 ++ free 7, Refused 2)
    ∷ (moov 8 ++ free 9, Refused 2)
    ∷ (moov 8 ++ (moov 8 ++ (0 ∷ [])), Refused 2)
    ∷ (moov 8 ++ (free 1 ++ wide 15), Refused 2)
    ∷ (moov 8 ++ free 1, Refused 2)
    ∷ []

results : map (λ e. walked e.0) cases ≡ map (λ e. e.1) cases
unfolding be_at within size_ahead one_more past ended stepped on_by walk
results = refl
