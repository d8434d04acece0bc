-- `words::first_sum` meets its contract: the part cut out has just the numbers asked for.
-- Assumes nothing.
use mathlib.Core.Path.{◌∙◌}
use native.Mathlib.Omega.{arith}
use Rattle.words.proofs.Sums.{first_few, first_words}
use Rattle.words.proofs.first_sum.Goals as goal

pub sum_words-requires : goal.sum_words-requires
sum_words-requires c = let a = c.args in omega (arith, first_few _ a.count c.front.ensures, c.ranges.count)

pub returns : goal.returns
returns c =
    let a = c.args in
    (c.sum_words.ensures.0 ∙ first_words _ a.count c.front.ensures, omega (arith, c.sum_words.ensures.1, first_few _ a.count c.front.ensures))
