-- A step by the places in the tables, as the code has it. This need not be believed: `Steps` of Stepping says what a step promises.
use Rattle.std.specs.Prelude.{ℕ, ◌+◌, true, cond, Option, Some, None, List, leb, eqb, length, get_or, pos, ◌+ℤ◌}
use Rattle.words.specs.Words.{sizes, size_head}
use Rattle.positions.specs.Runs.{shift_of}
use Rattle.positions.specs.Syncs.{sync_step}
use Rattle.positions.specs.Dealing.{offset_head}
use Rattle.positions.specs.Moving.{Bytes, readied_moving, may_move, past_moving}
use Rattle.positions.specs.declared.moving.Moving.{Moving}
use Rattle.questions.specs.declared.samples.Sample.{Sample}
use Rattle.step_moves.specs.declared.Heads.{Heads}
use Rattle.step_moves.specs.declared.Stepped.{Stepped}

-- what the places, with the entries read, say of the sample; stsz is asked by its index, and stss, from its place on, by its number
abbrev pub sample_said : List ℕ → List ℕ → Moving → Sample
sample_said stsz stss m =
    record {
      decode = m.decode;
      duration = m.times.each;
      composition = pos m.decode +ℤ shift_of m.shifts;
      sync = cond (eqb (length stss) 0) true (sync_step stss m.sync (m.index + 1)).listed;
      description = m.dealt.cursor.description;
      chunk = m.dealt.chunk;
      offset = m.dealt.offset;
      size = get_or (sizes stsz) m.index 0;
    }

abbrev pub moved_past : List ℕ → List ℕ → Moving → Moving
moved_past stsz stss m = past_moving (get_or (sizes stsz) m.index 0) (sync_step stss m.sync (m.index + 1)).at m

-- the sample, and the places past it
abbrev pub moved : List ℕ → List ℕ → Moving → Stepped
moved stsz stss m = record { sample = sample_said stsz stss m; past = moved_past stsz stss m }

-- those, where a number can grow
unfoldable pub moved_on : List ℕ → List ℕ → Moving → Option Stepped
moved_on stsz stss m = cond (may_move m) (Some (moved stsz stss m)) None

-- a step by the tables' bytes: the entries read that the sample needs, and then the sample
unfoldable pub stepped_on : Bytes → ℕ → Moving → Option Stepped
stepped_on x samples m = cond (leb samples m.index) None (moved_on x.stsz x.stss (readied_moving x.stts x.ctts x.stsc x.offsets m))

-- what the heads of stsz and of the chunk offsets say
abbrev pub heads_of : List ℕ → List ℕ → Heads
heads_of stsz offsets = record { sizes = size_head stsz; offsets = offset_head offsets }
