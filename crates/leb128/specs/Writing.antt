-- Writing into lent bytes: bytes at a place, whole or not at all.
use Rattle.std.specs.Prelude.{cond, List, ◌++◌, ℕ, ◌+◌, leb, length, take, drop, Option, Some, None}

-- what is lent, with the bytes at a place where they fit, or as it was
unfoldable pub put_at : List ℕ → ℕ → List ℕ → List ℕ
put_at out at bs = cond (leb (at + length bs) (length out)) (take at out ++ bs ++ drop (at + length bs) out) out

-- the place past them where they fit
unfoldable pub past_put : List ℕ → ℕ → List ℕ → Option ℕ
past_put out at bs = cond (leb (at + length bs) (length out)) (Some (at + length bs)) None
