-- How the code steps through numbers of a slip. Nobody has to believe these definitions: they are between the crates' own functions, and
-- `slip/proofs/Found.antt` shows that they come to what `slip/specs/Slip.antt` says.
use Rattle.std.specs.Prelude.{Bool, cond, List, [], ◌∷◌, ℕ, zero, suc, ◌+◌, Result, Ok, Err}
use Rattle.leb128.specs.Reading.{NumberRead, read_at, place_of}
use Rattle.slip_numbers.specs.declared.Malformed.{Malformed}
use Rattle.slip_numbers.specs.Rules.{allowed}

-- a run of numbers: all of them and the place past them, or the place of the first fault
pub data NumberRun : Type 0 where
  all : List ℕ → ℕ → NumberRun
  stopped : ℕ → NumberRun

-- n before the rest of a run
unfoldable pub prepend : ℕ → NumberRun → NumberRun
prepend n (all ns end) = all (n ∷ ns) end
prepend n (stopped p) = stopped p

-- a number that was read, if its rule allows it, and the rest of the run from the place past it
unfoldable pub ruled : (ℕ → Bool) → ℕ → (ℕ → ℕ → NumberRun) → NumberRead → NumberRun
ruled ok at rest (Ok n) = cond (ok n.value) (prepend n.value (rest n.value n.next)) (stopped at)
ruled ok at rest (Err fault) = stopped (place_of fault)

-- c numbers of at most k + 1 groups from a place, the first of them after i numbers of the slip, and after the number prev
unfoldable pub run : ℕ → ℕ → List ℕ → ℕ → ℕ → ℕ → ℕ → NumberRun
run k top bs zero i prev at = all [] at
run k top bs (suc c) i prev at = ruled (allowed i prev) at (λ n next. run k top bs c (i + 1) n next) (read_at k top bs at)

-- what a check of numbers answers: the place past them, or where the first fault is
abbrev pub Checked : Type 0
Checked = Result ℕ Malformed

abbrev pub fault_at : ℕ → Checked
fault_at p = Err (record { place = p })

-- whether a run has all its numbers
unfoldable pub checked_of : NumberRun → Checked
checked_of (all ns end) = Ok end
checked_of (stopped p) = fault_at p
