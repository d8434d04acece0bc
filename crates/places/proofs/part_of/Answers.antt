-- `places::part_of` meets its contract, by what the calls ensure.
-- Assumes nothing.
use mathlib.Core.Path.{ap, ◌∙◌}
use lib.ListN.{take}
use Rattle.places.specs.Places.{part_in}
use Rattle.places.proofs.part_of.Goals as goal

pub after-requires : goal.after-requires
after-requires c = tt

pub front-requires : goal.front-requires
front-requires c = tt

pub returns : goal.returns
unfolding part_in
returns c = c.front.ensures ∙ ap (take c.args.p.len) c.after.ensures
