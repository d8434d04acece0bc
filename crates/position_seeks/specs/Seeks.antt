-- The places in all tables before a sample, as the code has it. This need not be believed: callers go by `moving_sought` of `proofs/Sought.antt`.
use Rattle.std.specs.Prelude.{ℕ}
use Rattle.bigendian.specs.BigEndian.{u32_at}
use Rattle.lists.specs.Lists.{before}
use Rattle.runs.specs.Runs.{per_sample}
use Rattle.positions.specs.Runs.{sought_run}
use Rattle.positions.specs.Syncs.{sync_place}
use Rattle.positions.specs.Dealing.{sought_dealt}
use Rattle.positions.specs.Moving.{Bytes}
use Rattle.positions.specs.declared.moving.Moving.{Moving}

-- before the sample with index k, of any tables
unfoldable pub sought_moving : Bytes → ℕ → Moving
sought_moving x k =
    record {
      index = k;
      decode = before (per_sample x.stts) k;
      times = sought_run x.stts k;
      shifts = sought_run x.ctts k;
      dealt = sought_dealt x.stsc x.stsz x.offsets (u32_at x.offsets 12) k;
      sync = sync_place x.stss k;
    }
