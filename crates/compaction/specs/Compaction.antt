-- Document 02, Ask 13, "Closing up wasteful tables" (compaction in this project): "Write the moov atom anew into lent room of its own length, which
-- is returned, each stts and stsc having the fewest entries that deal out the same samples, all else copied in order." "Refusals: the file's, then
-- 16."
use Rattle.std.specs.Prelude.{ℕ, List, [], ◌∷◌, ◌++◌, length, take, Result, Ok, Err}
use Rattle.atoms.specs.Kinds.{file, moov}
use Rattle.atoms.specs.Atoms.{header_of, body_of, child_in}
use Rattle.structure.specs.declared.source.Source.{Source}
use Rattle.structure.specs.Rows.{or_else}
use Rattle.movie.specs.Refusals.{film_refusal}
use Rattle.movie.specs.Rooms.{no_room, refused_with}
use Rattle.movie.specs.Answers.{given, Puts}
use Rattle.compact_tree.specs.Tree.{compact_body}
use Rattle.refusals.specs.Refusals.{number, refused}
use Rattle.refusals.specs.declared.Refusal.{Refusal}

-- a film with its tables compact, given as a whole file or as its moov alone
unfoldable pub compact_film : List ℕ → List ℕ
compact_film s = compact_body 6 file s

-- its moov atom, written anew: the header stays, since the length does
unfoldable pub compact_moov : List ℕ → List ℕ
compact_moov s = take (header_of (child_in file moov 0 s)) (child_in file moov 0 s) ++ compact_body 5 moov (body_of (child_in file moov 0 s))

-- "the file's, then 16"
unfoldable pub compact_refusal : List ℕ → Source → List ℕ → ℕ
compact_refusal s w room = or_else (film_refusal s w) (no_room (compact_moov s) room)

-- "its own length, which is returned"
abbrev pub compact_asked : List ℕ → Result ℕ Refusal
compact_asked s = Ok (length (compact_moov s))

abbrev pub compact_answer : List ℕ → Source → List ℕ → Result ℕ Refusal
compact_answer s w room = given (compact_refusal s w room) (compact_asked s) refused

-- document 01's number and value for each case of the answer
unfoldable pub compact_numbers : Result ℕ Refusal → List ℕ
compact_numbers (Ok n) = 0 ∷ n ∷ []
compact_numbers (Err e) = refused_with 1 (number e)

-- the promise of the question: the answer r, and the room after it
abbrev pub Compacts : List ℕ → Source → List ℕ → Result ℕ Refusal → List ℕ → Type 0
Compacts s w room r after =
    Puts compact_numbers (refused_with 1) refused (compact_refusal s w room) (compact_asked s) r (compact_moov s) room after
