-- A number of at most four groups, as the quick way has it. This need not be believed: `quick_is` of `proofs/Quick.antt` is what callers go by.
use Rattle.std.specs.Prelude.{cond, List, ℕ, ◌+◌, leb, length, Option, Some, None, Ok, Err}
use Rattle.leb128.specs.Reading.{NumberRead, read_at}
use Rattle.leb128.specs.declared.number.Number.{Number}

-- a good number; none for any other
unfoldable pub quickly : NumberRead → Option Number
quickly (Ok n) = Some n
quickly (Err fault) = None

-- the same of a number of at most four groups, where four bytes are there
unfoldable pub quick_of : List ℕ → ℕ → Option Number
quick_of bs at = cond (leb (at + 4) (length bs)) (quickly (read_at 3 128 bs at)) None
