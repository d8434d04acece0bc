-- Whether a film has fragments. No request asks for it: the papers read no fragment, so a film that has some is read in part, and whoever
-- relies on its samples or its total must be told.
use Rattle.std.specs.Prelude.{ℕ, List, [], ◌∷◌, Bool, false, cond, ltb, eqb, Result, Ok, Err}
use Rattle.atoms.specs.Kinds.{file, moov}
use Rattle.atoms.specs.Atoms.{count_in}
use Rattle.structure.specs.declared.source.Source.{Source}
use Rattle.structure.specs.Movie.{moov_of}
use Rattle.movie.specs.Refusals.{film_refusal}
use Rattle.movie.specs.Rooms.{refused_with}
use Rattle.movie.specs.Answers.{given, Gives}
use Rattle.refusals.specs.Refusals.{number, refused}
use Rattle.refusals.specs.declared.Refusal.{Refusal}
use Rattle.fragments.specs.declared.FoundFragments.{FoundFragments}

-- the type of a fragment at top level, four characters as a big-endian number
abbrev pub moof : ℕ
moof = 0x6d6f6f66

-- the type of the atom in moov that announces fragments
abbrev pub mvex : ℕ
mvex = 0x6d766578

-- whether the moov of the film s announces fragments
unfoldable pub extended : List ℕ → Bool
extended s = ltb 0 (count_in moov mvex (moov_of s))

-- whether the file s has a fragment at top level; of a moov alone that is not known, and false
unfoldable pub fragmented : List ℕ → Source → Bool
fragmented s w = cond w.alone false (ltb 0 (count_in file moof s))

-- what is answered where nothing is refused
abbrev pub fragments_told : List ℕ → Source → Result FoundFragments Refusal
fragments_told s w = Ok (record { extended = extended s; fragmented = fragmented s w })

abbrev pub fragments_answer : List ℕ → Source → Result FoundFragments Refusal
fragments_answer s w = given (film_refusal s w) (fragments_told s w) refused

-- a yes is 1 and a no is 0
unfoldable pub bit : Bool → ℕ
bit b = cond b 1 0

-- the number and the values for each case of the answer: the refusal, 0 for none; whether the moov has an mvex, whether the file has a moof
unfoldable pub fragments_numbers : Result FoundFragments Refusal → List ℕ
fragments_numbers (Ok x) = 0 ∷ bit x.extended ∷ bit x.fragmented ∷ []
fragments_numbers (Err e) = refused_with 2 (number e)

-- the promise of the question: the answer r. The refusals are those of the file
abbrev pub TellsFragments : List ℕ → Source → Result FoundFragments Refusal → Type 0
TellsFragments s w r = Gives fragments_numbers (refused_with 2) refused (film_refusal s w) (fragments_told s w) r
