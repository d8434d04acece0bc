-- `edits::start_of` meets its contract, by the sign.
-- Assumes nothing.
use Rattle.edits.proofs.Signs.{from_at, cast_at, empty_at, wrong_at}
use Rattle.edits.proofs.start_of.Goals as goal

pub overflow_cast-result : goal.overflow_cast-result
overflow_cast-result c = cast_at c.args.media c.ranges.media.sfits c.if-media-ge0.true

pub returns-then-media-ge0 : goal.returns-then-media-ge0
returns-then-media-ge0 c = from_at c.args.media c.ranges.media.sfits c.if-media-ge0.true

pub returns-then-media-eqminus1 : goal.returns-then-media-eqminus1
returns-then-media-eqminus1 c = empty_at c.args.media c.ranges.media.sfits c.if-media-eqminus1.true

pub returns : goal.returns
returns c = wrong_at c.args.media c.ranges.media.sfits c.if-media-ge0.false c.if-media-eqminus1.false
