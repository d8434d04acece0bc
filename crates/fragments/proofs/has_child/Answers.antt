-- `fragments::has_child` meets its contract: the first child of the kind has bytes.
-- Assumes nothing.
use mathlib.Core.Path.{ap, ◌∙◌}
use lib.ListN.{length}
use Rattle.fragments.proofs.Children.{child_there}
use Rattle.fragments.proofs.has_child.Goals as goal

pub returns : goal.returns
returns c = child_there _ _ _ _ (ap length (c.part_of.ensures ∙ c.child_part-child.ensures))
