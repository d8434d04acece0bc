-- The names that the program reads. Document 02: "file names, one to a line".
use Rattle.std.specs.Prelude.{ℕ, suc, cond, List, [], ◌∷◌, eqb}

-- how many bytes stand before the first line feed; all of them where there is none
abbrev pub name_length : List ℕ → ℕ
name_length [] = 0
name_length (b ∷ bs) = cond (eqb b 10) 0 (suc (name_length bs))
