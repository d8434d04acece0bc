-- `return_totals::add_counts` meets its contract.
-- Assumes nothing.
use mathlib.Core.Path.{refl}
use Rattle.return_totals.proofs.Following.{more_counts}
use Rattle.return_totals.proofs.add_counts.Goals as goal

pub returns : goal.returns
returns c r s w =
    more_counts c.args.f c.args.c _ _ _ _ c.sum_of-accepted.ensures c.sum_of-tracks.ensures c.sum_of-samples.ensures c.sum_of-bytes.ensures _ refl r s w _
    c.later_refusal-refusal.ensures
