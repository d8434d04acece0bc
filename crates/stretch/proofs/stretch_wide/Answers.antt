-- `stretch::stretch_wide` meets its contract: the bytes of an accepted file are numbers of 64 bits.
-- Assumes nothing.
use Rattle.stretch.proofs.Spanning.{file_low, of_numbers}
use Rattle.stretch.proofs.stretch_wide.Goals as goal

pub stretch_from-requires : goal.stretch_from-requires
stretch_from-requires c = λ e. file_low _ _ _ e

pub returns : goal.returns
returns c = of_numbers _ _ _ _ _ _ _ _ c.stretch_from.ensures
