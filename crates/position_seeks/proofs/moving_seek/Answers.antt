-- `position_seeks::moving_seek` meets its contract: each field is what its callee answers.
-- Assumes nothing.
use Rattle.position_seeks.proofs.Sought.{moving_made}
use Rattle.position_seeks.proofs.moving_seek.Goals as goal

pub returns : goal.returns
returns c =
    moving_made
    (record {
      stts = c.args.stts.now;
      ctts = c.args.ctts.now;
      stsc = c.args.stsc.now;
      stsz = c.args.stsz.now;
      offsets = c.args.offsets.now;
      stss = c.args.stss.now;
    })
    _ _ _ _ _ _ _ c.timing_of-timing.ensures c.run_seek-times.ensures c.run_seek-shifts.ensures c.u32_at.ensures c.dealt_seek-dealt.ensures c.sync_seek.ensures
