-- The refusals of a film, 1 to 3, in the order of the paper's table: their conditions on the bytes lent, by its source, and their rows.
use Rattle.std.specs.Prelude.{ℕ, List, [], ◌∷◌, Bool, not, ◌&&◌, ◌||◌, length, ltb, eqb}
use Rattle.atoms.specs.Kinds.{file, moov}
use Rattle.atoms.specs.Atoms.{kind_of, size_in, filled}
use Rattle.atoms.specs.Tree.{everywhere}
use Rattle.presence.specs.Present.{present}
use Rattle.structure.specs.declared.source.Source.{Source}
use Rattle.structure.specs.Rows.{Row, row, never}

-- 1: "the file is longer than 2,147,483,647 bytes"; document 02: "1 there for lent bytes above their limit, or a length above 2^63-1 or below
-- theirs", the limit being "at most 2,147,483,647"
unfoldable pub file_too_long : Source → List ℕ → Bool
file_too_long w s = ltb 2147483647 (length s) || (w.alone && (ltb 9223372036854775807 w.length || ltb w.length (length s)))

-- whether the bytes are one moov atom, "(size 0 runs to their end)". No bytes have no type
unfoldable pub one_moov : List ℕ → Bool
one_moov s = eqb (size_in file s) (length s) && eqb (kind_of s) moov

-- 2: "an atom's size is wrong, passes its parent's end, or 1 to 7 bytes (under 16 for a 64-bit size) remain"; document 02: "2 if the lent bytes
-- aren't one moov atom"
unfoldable pub wrong_atoms : Source → List ℕ → Bool
wrong_atoms w s = not (everywhere filled 6 file s) || (w.alone && not (one_moov s))

-- 3: "an atom is absent or occurs too often"; document 02: "3 if both offset tables or neither is there"
unfoldable pub wrong_counts : Source → List ℕ → Bool
wrong_counts w s = not (everywhere (present w.alone) 6 file s)

-- the rows that are judged on the bytes lent: number, condition on them. `film_refusal` of the crate movie begins with them
unfoldable pub file_rows : Source → List Row
file_rows w =
    row 1 (file_too_long w) never
    ∷ row 2 (wrong_atoms w) never
    ∷ row 3 (wrong_counts w) never
    ∷ []
