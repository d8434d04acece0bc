-- `return_totals::add_track` meets its contract.
-- Assumes nothing.
use mathlib.Core.Path.{refl}
use Rattle.return_totals.proofs.Following.{track_more}
use Rattle.return_totals.proofs.add_track.Goals as goal

pub returns : goal.returns
returns c r s w =
    let t = c.args.t in
    rw (← track_more t (record { accepted = 0; tracks = 1; samples = t.samples; bytes = t.bytes }) refl s) (c.add_counts.ensures r _ (c.add_scale.ensures r s w))
