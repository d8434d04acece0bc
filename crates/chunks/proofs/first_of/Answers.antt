-- `chunks::first_of` meets its contract: the first entry says it, or one past the last chunk does.
-- Assumes nothing.
use mathlib.Core.Path.{sym, ◌∙◌}
use native.Mathlib.Omega.{arith}
use Rattle.chunks.proofs.Turns.{first_some, first_none}
use Rattle.chunks.proofs.first_of.Goals as goal

pub returns-then-part-ge-ENTRY : goal.returns-then-part-ge-ENTRY
returns-then-part-ge-ENTRY c = (c.u32_at.ensures ∙ sym (first_some _ _ c.if-part-ge-ENTRY.true), omega (arith, c.u32_at.type_inv))

pub returns : goal.returns
returns c = (sym (first_none _ _ c.if-part-ge-ENTRY.false), omega (arith, c.ranges.chunks))
