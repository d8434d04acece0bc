-- `return_totals::add_accepted` meets its contract.
-- Assumes nothing.
use mathlib.Core.Path.{refl}
use Rattle.return_totals.specs.Returns.{return_of}
use Rattle.return_totals.proofs.Following.{accepted_more}
use Rattle.return_totals.proofs.add_accepted.Goals as goal

pub returns : goal.returns
returns c =
    let r = c.args.r in
    rw (← accepted_more (record { accepted = 1; tracks = 0; samples = 0; bytes = 0 }) refl (return_of r)) (c.add_counts.ensures r _ c.unchanged_return.ensures.1)
