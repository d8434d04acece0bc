-- How the code steps through a slip, number by number. Nobody has to believe these definitions: they are between the crates' own functions, and
-- `slip/proofs/Found.antt` shows that they come to what `slip/specs/Slip.antt` says.
use Rattle.std.specs.Prelude.{Bool, cond, ◌&&◌, List, ℕ, ◌*◌, eqb, length, get_or, Result, Ok, Err}
use Rattle.leb128.specs.Reading.{NumberRead, read_at, place_of}
use Rattle.slip_head.specs.declared.Head.{Head}
use Rattle.slip_numbers.specs.Steps.{NumberRun, all, stopped, run}
use Rattle.slip_numbers.specs.declared.Malformed.{Malformed}
use Rattle.slip_scan.specs.declared.Scanned.{Scanned}

-- what is found: a slip's head and the place where its pairs begin, or where the first fault is
abbrev pub SlipScan : Type 0
SlipScan = Result Scanned Malformed

abbrev pub slip_at : Head → ℕ → SlipScan
slip_at h at = Ok (record { head = h; pairs_at = at })

abbrev pub malformed_at : ℕ → SlipScan
malformed_at p = Err (record { place = p })

-- what follows the form: five numbers, twice as many as the last of them says, and the end
unfoldable pub after_pairs : List ℕ → List ℕ → ℕ → NumberRun → SlipScan
after_pairs bs ns at (all ps end) =
    cond (eqb end (length bs))
    (slip_at (record { id = get_or ns 0 0; scale = get_or ns 1 0; a = get_or ns 2 0; b = get_or ns 3 0; pairs = get_or ns 4 0 }) at)
    (malformed_at end)
after_pairs bs ns at (stopped p) = malformed_at p

unfoldable pub after_head : ℕ → ℕ → List ℕ → NumberRun → SlipScan
after_head k top bs (all ns at) = after_pairs bs ns at (run k top bs (2 * get_or ns 4 0) 6 0 at)
after_head k top bs (stopped p) = malformed_at p

unfoldable pub rest_in : ℕ → ℕ → List ℕ → ℕ → SlipScan
rest_in k top bs from = after_head k top bs (run k top bs 5 1 0 from)

-- what follows form 2: the rest with numbers below 2 ^ 64, where it is none with numbers below 2 ^ 32
unfoldable pub widened : SlipScan → SlipScan → SlipScan
widened (Ok s) wide = malformed_at 0
widened (Err m) wide = wide

unfoldable pub wide_in : List ℕ → ℕ → SlipScan
wide_in bs from = widened (rest_in 4 16 bs from) (rest_in 9 2 bs from)

-- the form, and what follows it
unfoldable pub by_form : Bool → List ℕ → NumberRead → SlipScan
by_form any bs (Ok n) = cond (eqb n.value 1) (rest_in 4 16 bs n.next) (cond (any && eqb n.value 2) (wide_in bs n.next) (malformed_at 0))
by_form any bs (Err fault) = malformed_at (place_of fault)

unfoldable pub scan_in : Bool → List ℕ → SlipScan
scan_in any bs = by_form any bs (read_at 4 16 bs 0)
