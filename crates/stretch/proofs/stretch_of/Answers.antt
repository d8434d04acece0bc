-- `stretch::stretch_of` meets its contract: an accepted whole file has fewer than 2 ^ 32 bytes.
-- Assumes nothing.
use Rattle.stretch.proofs.Spanning.{of_whole, whole_low, of_numbers}
use Rattle.stretch.proofs.stretch_of.Goals as goal

pub stretch_from-requires : goal.stretch_from-requires
stretch_from-requires c = λ e. whole_low _ _ _ e c.whole.ensures

pub returns : goal.returns
returns c = of_whole _ _ _ _ _ _ _ _ c.whole.ensures (of_numbers _ _ _ _ _ _ _ _ c.stretch_from.ensures)
