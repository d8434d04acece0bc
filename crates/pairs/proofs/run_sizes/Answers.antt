-- `pairs::run_sizes` meets its contract.
-- Assumes nothing.
use mathlib.Core.Path.{ap, ◌∙◌}
use lib.ListN.{drop}
use Prim.Native.Nat.{◌*◌}
use Rattle.pairs.proofs.run_sizes.Goals as goal

pub returns : goal.returns
returns c = c.after-2.ensures ∙ ap (drop (c.args.p.begin * 4)) c.after.ensures
