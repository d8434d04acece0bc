-- `return_totals::join_returns` meets its contract.
-- Assumes nothing.
use mathlib.Core.Path.{refl}
use Rattle.return_totals.proofs.Joining.{joined_in}
use Rattle.return_totals.proofs.join_returns.Goals as goal

pub returns : goal.returns
returns c =
    let s = c.args.s in
    joined_in s (record { accepted = s.accepted; tracks = s.tracks; samples = s.samples; bytes = s.bytes }) refl c.args.r _ _ _ _ _
    c.unchanged_return.ensures.1 c.add_scales-scales.ensures c.add_counts.ensures c.add_each-files.ensures c.settle.ensures
