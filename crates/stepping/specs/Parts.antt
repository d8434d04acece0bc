-- The tables of a track by their parts, and a position by them. These need not be believed: they are between the crates' own functions.
use Rattle.std.specs.Prelude.{ℕ, ◌-◌, cond, List, Result, Ok}
use Rattle.places.specs.Places.{part_in}
use Rattle.places.specs.declared.tables.Tables.{Tables}
use Rattle.positions.specs.Moving.{Bytes}
use Rattle.position_seeks.specs.Seeks.{sought_moving}
use Rattle.questions.specs.Said.{is_asked}
use Rattle.refusals.specs.Refusals.{refused}
use Rattle.refusals.specs.declared.Refusal.{Refusal}
use Rattle.stepping.specs.declared.Stepper.{Stepper}

-- the tables' bytes
abbrev pub bytes_in : List ℕ → Tables → Bytes
bytes_in s p =
    record {
      stts = part_in s p.stts;
      ctts = part_in s p.ctts;
      stsc = part_in s p.stsc;
      stsz = part_in s p.stsz;
      offsets = part_in s p.offsets;
      stss = part_in s p.stss;
    }

-- a start at sample n, from 1, of that many samples, by the tables at their places, whatever stands there
unfoldable pub start_said : List ℕ → Tables → ℕ → ℕ → Result Stepper Refusal
start_said s p samples n =
    cond (is_asked (part_in s p.stsc) samples n)
    (Ok (record { tables = p; samples = samples; moving = sought_moving (bytes_in s p) (n - 1) }))
    (refused 15)
