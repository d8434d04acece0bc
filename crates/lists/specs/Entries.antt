-- The entries of a table, once over head and width.
use Rattle.std.specs.Prelude.{ℕ, zero, suc, ◌/◌, List, [], ◌∷◌, length, take, drop}

-- the first n parts of w bytes
abbrev pub rows : ℕ → ℕ → List ℕ → List (List ℕ)
rows w zero s = []
rows w (suc n) s = take w s ∷ rows w n (drop w s)

-- all whole parts of w bytes
unfoldable pub rows_of : ℕ → List ℕ → List (List ℕ)
rows_of w s = rows w (length s / w) s

-- the entries of a table: what follows the head, cut into entries of w bytes. An absent table is no bytes and has none. That a table has as many
-- as its count says, and no byte more, is its size, which refusal 5 asks for
unfoldable pub entries : ℕ → ℕ → List ℕ → List (List ℕ)
entries head w s = rows_of w (drop head s)
