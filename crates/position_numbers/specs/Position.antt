-- A position of the stepper as numbers: 29 of them, in the order of its structs' fields.
use Rattle.std.specs.Prelude.{ℕ, ◌+◌, ◌≤◌, ◌≡◌, List, [], ◌∷◌, length, get_or}
use Rattle.runs.specs.declared.cursor.RunCursor.{RunCursor}
use Rattle.chunks.specs.declared.ChunkCursor.{ChunkCursor}
use Rattle.positions.specs.declared.dealt.Dealt.{Dealt}
use Rattle.positions.specs.declared.moving.Moving.{Moving}
use Rattle.stepping.specs.declared.Stepper.{Stepper}
use Rattle.hand.specs.Places.{Hands}
use Rattle.table_numbers.specs.Numbers.{low_at, tables_at}

unfoldable pub stepper_numbers : Stepper → List ℕ
stepper_numbers p =
    p.tables.stts.at
    ∷ p.tables.stts.len
    ∷ p.tables.ctts.at
    ∷ p.tables.ctts.len
    ∷ p.tables.stsc.at
    ∷ p.tables.stsc.len
    ∷ p.tables.stsz.at
    ∷ p.tables.stsz.len
    ∷ p.tables.offsets.at
    ∷ p.tables.offsets.len
    ∷ p.tables.stss.at
    ∷ p.tables.stss.len
    ∷ p.samples
    ∷ p.moving.index
    ∷ p.moving.decode
    ∷ p.moving.times.at
    ∷ p.moving.times.count
    ∷ p.moving.times.each
    ∷ p.moving.shifts.at
    ∷ p.moving.shifts.count
    ∷ p.moving.shifts.each
    ∷ p.moving.dealt.cursor.at
    ∷ p.moving.dealt.cursor.remaining
    ∷ p.moving.dealt.cursor.per
    ∷ p.moving.dealt.cursor.description
    ∷ p.moving.dealt.chunk
    ∷ p.moving.dealt.rest
    ∷ p.moving.dealt.offset
    ∷ p.moving.sync
    ∷ []

-- ---- the position that numbers are, whatever they are: a field of 32 bits takes the lowest 32, and a number that is not there counts as 0

abbrev pub run_at : List ℕ → ℕ → RunCursor
run_at ns i = record { at = get_or ns i 0; count = low_at ns (i + 1); each = low_at ns (i + 2) }

abbrev pub cursor_at : List ℕ → ChunkCursor
cursor_at ns = record { at = get_or ns 21 0; remaining = get_or ns 22 0; per = low_at ns 23; description = low_at ns 24 }

abbrev pub moving_at : List ℕ → Moving
moving_at ns =
    record {
      index = low_at ns 13;
      decode = get_or ns 14 0;
      times = run_at ns 15;
      shifts = run_at ns 18;
      dealt = record { cursor = cursor_at ns; chunk = low_at ns 25; rest = low_at ns 26; offset = get_or ns 27 0 };
      sync = get_or ns 28 0;
    }

unfoldable pub stepper_in : List ℕ → Stepper
stepper_in ns = record { tables = tables_at ns; samples = low_at ns 12; moving = moving_at ns }

-- the promise of `hand_position`: the numbers of p in the first places, and what is then in the places is p again
pub record HandsPosition (p : Stepper) (places : List ℕ) (r : ℕ) (after : List ℕ) : Type 0 where
  pub handed : Hands 0 (stepper_numbers p) places r after
  pub again : 29 ≤ length places → stepper_in after ≡ p
