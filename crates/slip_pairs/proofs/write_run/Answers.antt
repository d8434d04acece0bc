-- `slip_pairs::write_run` meets its contract: pair by pair, or by what the chunks have in common.
-- Assumes nothing.
use mathlib.Core.Path.{sym}
use Rattle.slip_pairs.proofs.Common.{common_all}
use Rattle.pair_bytes.proofs.Streaming.{same_fit, same_wrote}
use Rattle.slip_pairs.proofs.write_run.Goals as goal

pub write_common-requires : goal.write_common-requires
write_common-requires c = same_fit c.args.at (sym (common_all c.args.r c.args.offsets.now c.args.sizes.now c.if-r.false c.if-r-2.false)) c.requires

pub returns : goal.returns
returns c = same_wrote (sym (common_all c.args.r c.args.offsets.now c.args.sizes.now c.if-r.false c.if-r-2.false)) c.write_common.ensures
