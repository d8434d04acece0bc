-- A number read in two parts. Nobody has to believe this definition: it is what the private functions of the reader promise one another, and
-- `proofs/Readings.antt` shows that it comes to what `specs/Reading.antt` says.
use Rattle.std.specs.Prelude.{Bool, cond, ℕ, ◌+◌, ◌*◌, eqb, Ok, Err}
use Rattle.leb128.specs.Reading.{NumberRead, found}
use Rattle.leb128.specs.declared.number.NumberFault.TheVariants.{Broken, Short}

-- the number from `at` on, whose groups so far count low, by what was read past them, where 1 counts unit; first says that there are none so far
unfoldable pub joined : ℕ → Bool → ℕ → ℕ → NumberRead → NumberRead
joined at first low unit (Ok got) = cond first (found (low + unit * got.value) got.next) (cond (eqb got.value 0) (Err (Broken at)) (found (low + unit * got.value) got.next))
joined at first low unit (Err (Broken p)) = Err (Broken at)
joined at first low unit (Err (Short end)) = Err (Short end)
