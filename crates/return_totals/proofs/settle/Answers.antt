-- `return_totals::settle` meets its contract: what the code holds in 64 bits passes no limit.
-- Assumes nothing.
use lib.ListN.{length}
use mathlib.Core.Path.{◌≡◌}
use Rattle.return_totals.proofs.Overs.{array_within}
use Rattle.return_totals.proofs.Following.{Held, settle_refused, settle_kept}
use Rattle.return_totals.proofs.settle.Goals as goal

pub returns-then-refusal-ne0 : goal.returns-then-refusal-ne0
returns-then-refusal-ne0 c s w =
    let units_long : length c.args.r.units ≡ 32 = c.well_formed.0.1.1.1.1.1.1.1.1.1.0.1.0.1 in
    let scales_long : length c.args.r.scales ≡ 32 = c.well_formed.0.1.1.1.1.1.1.1.1.0.1.0.1 in
    settle_refused _ _ s w (scales_long) (units_long) c.if-refusal-ne0.true

pub returns : goal.returns
returns c s w =
    let held : Held c.args.f.totals = let g = c.well_formed.1.0.1.1.1.0.1.1 in
    record {
      accepted = g.0.1;
      refused = array_within c.args.f.totals.refused g.1.0.0 g.1.0.1.1;
      tracks = g.1.1.0.1;
      samples = g.1.1.1.0.1;
      bytes = g.1.1.1.1.0.1;
      units = array_within c.args.f.totals.units g.1.1.1.1.1.1.1.0.0 g.1.1.1.1.1.1.1.0.1.1;
    } in
    settle_kept _ _ s w c.if-refusal-ne0.false (held)
