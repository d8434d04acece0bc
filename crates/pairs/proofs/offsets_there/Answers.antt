-- `pairs::offsets_there` meets its contract: the numbers after the head, of the table's width.
-- Assumes nothing.
use mathlib.Core.Path.{sym, ◌∙◌}
use native.Mathlib.Omega.{arith}
use Rattle.words.proofs.Turns.{width_is, width_above}
use Rattle.pairs.proofs.Wholes.{offsets_there}
use Rattle.pairs.proofs.offsets_there.Goals as goal

pub nonzero_div-result : goal.nonzero_div-result
nonzero_div-result c = omega (arith, c.width_of.ensures, width_above c.is_long.result)

pub returns : goal.returns
returns c = offsets_there _ c.after-part.ensures (c.width_of.ensures ∙ sym (width_is _ c.is_long.ensures))
