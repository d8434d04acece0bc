-- What the walk over a file's top-level headers says, beside what the whole file gets: so a host may read the headers and the moov alone.
use Rattle.std.specs.Prelude.{ℕ, ◌≤◌, ◌≡◌, List, true, false, cond, length, take, drop}
use Rattle.atoms.specs.Kinds.{file, moov}
use Rattle.atoms.specs.Atoms.{filled}
use Rattle.atoms.specs.Tree.{everywhere}
use Rattle.structure.specs.declared.source.Source.{Source}
use Rattle.structure.specs.Source.{whole_file, moov_alone, strictly}
use Rattle.structure.specs.Movie.{moov_of}
use Rattle.shape.specs.Refusals.{one_moov}
use Rattle.movie.specs.Refusals.{film_refusal}
use Rattle.top_level.specs.declared.Next.TheVariants.{Found, Refused}
use Rattle.top_level.specs.TopLevel.{walked}
use Rattle.ways.specs.Ways.{moov_atom, no_long_offsets}
use Rattle.ways.specs.Agree.{SameAnswers, SameEntries}

-- a file s that is lent whole, as w says, and is not longer than document 01's limit
pub record AsWhole (s : List ℕ) (w : Source) : Type 0 where
  -- what the walk refuses 2, the whole file is refused 2
  pub two : w.alone ≡ false → length s ≤ 2147483647 → walked s ≡ Refused 2 → film_refusal s w ≡ 2
  -- what it refuses 3, the whole file is refused 3 if every body in its moovs is filled, and else 2
  pub three : w.alone ≡ false → length s ≤ 2147483647 → walked s ≡ Refused 3 → film_refusal s w ≡ cond (everywhere filled 6 file s) 3 2

-- a file s of any length: where the walk finds a place and a size, the bytes there are what the second way takes
pub record TakenAlone (s : List ℕ) (at size : ℕ) : Type 0 where
  pub atom : walked s ≡ Found at size → take size (drop at s) ≡ moov_atom s
  pub one : walked s ≡ Found at size → one_moov (take size (drop at s)) ≡ true
  pub movie : walked s ≡ Found at size → moov_of (take size (drop at s)) ≡ moov_of s

-- the walk has found a place and a size in a file s that is not longer than document 01's limit, and no stbl of its moov has a co64
pub record FoundNarrow (s : List ℕ) (at size : ℕ) : Type 0 where
  pub found : walked s ≡ Found at size
  pub short : length s ≤ 2147483647
  pub narrow : everywhere no_long_offsets 5 moov (moov_of s) ≡ true

-- then the file, asked by those bytes and its length, gets the answers of the whole file
pub record AnsweredAlone (s : List ℕ) (at size : ℕ) : Type 0 where
  pub default : FoundNarrow s at size → SameAnswers s whole_file (take size (drop at s)) (moov_alone (length s))
  pub strict : FoundNarrow s at size → SameAnswers s (strictly whole_file) (take size (drop at s)) (strictly (moov_alone (length s)))
  pub entries : FoundNarrow s at size → SameEntries s (take size (drop at s))
