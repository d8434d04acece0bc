-- `stretch::span_of_ask` meets its contract: what the tables of the trak say.
-- Assumes nothing.
use mathlib.Core.Path.{◌∙◌}
use Rattle.stretch.specs.Spans.{span_of_ask}
use Rattle.stretch.proofs.span_of_ask.Goals as goal

pub returns : goal.returns
unfolding span_of_ask
returns c = c.span_of.ensures ∙ rw (c.part_of-2.ensures, c.u32_at-samples.ensures, c.part_of.ensures, c.part_of-body.ensures)
