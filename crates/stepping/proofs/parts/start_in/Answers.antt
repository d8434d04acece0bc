-- `stepping::parts::start_in` meets its contract: each way out is one of the definition's.
-- Assumes nothing.
use Rattle.stepping.proofs.Started.{start_zero, start_past, start_long, start_parts}
use Rattle.stepping.proofs.parts.start_in.Goals as goal

pub returns-then-n-eq0 : goal.returns-then-n-eq0
returns-then-n-eq0 c = start_zero _ c.args.tables _ _ c.if-n-eq0.true

pub returns-then-samples-n : goal.returns-then-samples-n
returns-then-samples-n c = start_past _ c.args.tables _ _ c.if-n-eq0.false c.if-samples-n.true

pub part_of-stsc-requires : goal.part_of-stsc-requires
part_of-stsc-requires c = tt

pub returns-then-stsc-gt4294967295 : goal.returns-then-stsc-gt4294967295
returns-then-stsc-gt4294967295 c = start_long _ c.args.tables _ _ _ c.part_of-stsc.ensures c.if-n-eq0.false c.if-samples-n.false c.if-stsc-gt4294967295.true

pub part_of-requires : goal.part_of-requires
part_of-requires c = tt

pub part_of-requires-2 : goal.part_of-requires-2
part_of-requires-2 c = tt

pub part_of-requires-3 : goal.part_of-requires-3
part_of-requires-3 c = tt

pub part_of-requires-4 : goal.part_of-requires-4
part_of-requires-4 c = tt

pub part_of-requires-5 : goal.part_of-requires-5
part_of-requires-5 c = tt

pub returns : goal.returns
returns c = start_parts _ c.args.tables _ _ _ _ _ _ _ _ c.part_of.ensures c.part_of-2.ensures c.part_of-stsc.ensures c.part_of-3.ensures c.part_of-4.ensures c.part_of-5.ensures c.if-n-eq0.false c.if-samples-n.false c.if-stsc-gt4294967295.false _ c.moving_seek-moving.ensures
