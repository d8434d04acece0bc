-- `words::listed_between` meets its contract: the first numbers of what follows those before.
-- Assumes nothing.
use mathlib.Core.Path.{◌∙◌}
use native.Mathlib.Omega.{arith}
use Rattle.words.proofs.Sums.{listed_sum}
use Rattle.words.proofs.listed_between.Goals as goal

pub returns : goal.returns
returns c =
    let a = c.args in
    (c.first_sum.ensures.0 ∙ listed_sum _ a.from a.to c.after.ensures c.saturating_sub.ensures, omega (arith, c.first_sum.ensures.1, c.saturating_sub.ensures))
