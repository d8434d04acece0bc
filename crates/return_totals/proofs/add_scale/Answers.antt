-- `return_totals::add_scale` meets its contract.
-- Assumes nothing.
use Rattle.return_totals.proofs.Following.{no_more, one_scale}
use Rattle.return_totals.proofs.add_scale.Goals as goal

pub returns-then-met-eq20 : goal.returns-then-met-eq20
returns-then-met-eq20 c r s w = no_more _ _ _ _ c.add_units-added.ensures r s w c.if-met-eq20.true

pub returns : goal.returns
returns c r s w = one_scale _ _ _ _ c.add_units-added.ensures r s w c.if-met-eq20.false _ c.later_refusal-refusal.ensures
