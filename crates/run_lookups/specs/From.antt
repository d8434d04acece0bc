-- Lookups in stts and ctts by checkpoints: what the table says, where the checkpoints are the table's; by any others what the code comes to.
use Rattle.std.specs.Prelude.{◌≡◌, ℕ, ◌+◌, ◌-◌, ◌*◌, ◌%◌, ◌^◌, ◌<◌, ◌≤◌, cond, List, length, drop, ℤ, nat_lt, slice_index, Result, Ok, Err}
use Rattle.std.specs.Int.Signed.{mag}
use Rattle.lists.specs.Lists.{sum}
use Rattle.runs.specs.Runs.{runs_of, per_sample, timing_of, composition_offset}
use Rattle.runs.specs.declared.Timing.{Timing}
use Rattle.edits.specs.declared.MediaTime.{MediaTime}
use Rattle.time_questions.specs.Said.{number_said}
use Rattle.refusals.specs.declared.Refusal.{Refusal}
use Rattle.refusals.specs.declared.Refusal.TheVariants.{Outside}
use Rattle.time_questions.specs.declared.Numbered.{Numbered}
use Rattle.checkpoints.specs.Points.{CountsAt, TotalsAt, point_upto}

-- the samples before a checkpoint, as it says, and the table from its entry on
abbrev pub passed_at : List ℕ → ℕ → ℕ
passed_at points i = slice_index points (2 * i)

abbrev pub table_from : List ℕ → ℕ → List ℕ
table_from s i = drop (512 * i) s

-- the times of the sample with that index, from the checkpoint i on: what the rest of the table says, with the checkpoint's total, modulo
-- 2 ^ 64; where the checkpoint lies past the sample, what the table says
abbrev pub timing_past : List ℕ → List ℕ → ℕ → ℕ → Timing
timing_past stts points index i =
    let t = timing_of (per_sample (table_from stts i)) (index - passed_at points i) in
    record { start = (slice_index points (2 * i + 1) + t.start) % 2 ^ 64; duration = t.duration }

unfoldable pub timing_from : List ℕ → List ℕ → ℕ → ℕ → Timing
timing_from stts points count index =
    let i = point_upto points count 0 index in
    cond (nat_lt index (passed_at points i)) (timing_of (per_sample stts) index) (timing_past stts points index i)

-- and its composition offset
unfoldable pub offset_from : List ℕ → List ℕ → ℕ → ℕ → ℤ
offset_from ctts points count index =
    let i = point_upto points count 0 index in
    cond (nat_lt index (passed_at points i)) (composition_offset ctts index) (composition_offset (table_from ctts i) (index - passed_at points i))

-- the promises: that answer, and that of the table where the checkpoints are the table's
pub record TimingFrom (stts points : List ℕ) (count index : ℕ) (r : Timing) : Type 0 where
  pub answer : r ≡ timing_from stts points count index
  pub right : CountsAt (runs_of stts) points count → TotalsAt (runs_of stts) points count → sum (per_sample stts) < 2 ^ 64
      → r ≡ timing_of (per_sample stts) index

pub record OffsetFrom (ctts points : List ℕ) (count index : ℕ) (r : ℤ) : Type 0 where
  pub answer : r ≡ offset_from ctts points count index
  pub right : CountsAt (runs_of ctts) points count → r ≡ composition_offset ctts index
  pub low : mag r < 2 ^ 31

-- the sample at a time, of so many samples; by other checkpoints it is refused 15, or some sample of that many and some entry of the table
pub record NumberFrom (stts points : List ℕ) (count samples : ℕ) (t : MediaTime) (r : Result Numbered Refusal) : Type 0 where
  pub right : CountsAt (runs_of stts) points count → TotalsAt (runs_of stts) points count → r ≡ number_said stts samples t
  pub elsewhere : (e : Refusal) → r ≡ Err e → e ≡ Outside
  pub few : (n : Numbered) → r ≡ Ok n → (0 < n.sample) × (n.sample ≤ samples) × (0 < n.entry) × (n.entry ≤ length (runs_of stts))
