-- The sample at a media time by the bytes of stts, whatever these are, as the code has it. This need not be believed: `SampleAt` says what the
-- question promises.
use Rattle.std.specs.Prelude.{ℕ, ◌+◌, cond, List, length, ltb, Option, Some, None, Result, Ok}
use Rattle.runs.specs.Runs.{runs_of, looked_up}
use Rattle.edits.specs.declared.MediaTime.{MediaTime}
use Rattle.refusals.specs.Refusals.{refused}
use Rattle.refusals.specs.declared.Refusal.{Refusal}
use Rattle.runs.specs.declared.Hit.{Hit}
use Rattle.time_questions.specs.declared.Numbered.{Numbered}

-- the number, from 1, of a sample that is one of so many
unfoldable pub number_of : ℕ → Option Hit → Result Numbered Refusal
number_of samples (Some h) = cond (ltb h.index samples) (Ok (record { sample = h.index + 1; entry = h.entry })) (refused 15)
number_of samples None = refused 15

unfoldable pub number_said : List ℕ → ℕ → MediaTime → Result Numbered Refusal
number_said stts samples t = cond (ltb (length stts) 4294967296) (number_of samples (looked_up (runs_of stts) t.0)) (refused 15)
