-- `pairs::first_pair` meets its contract: the sizes are added where they are listed.
-- Assumes nothing.
use mathlib.Core.Path.{refl}
use Rattle.words.specs.Words.{numbers_in, words_in, width_of}
use Rattle.pairs.proofs.Wholes.{first_made}
use Rattle.pairs.proofs.first_pair.Goals as goal

pub returns-then-r : goal.returns-then-r
returns-then-r c =
    let a = c.args in
    first_made a.r _ (numbers_in (width_of a.r.long) a.offsets.now) (words_in a.sizes.now) _ _ c.if-r.true c.number_in-offset.ensures c.first_sum-length.ensures.0

pub returns : goal.returns
returns c =
    let a = c.args in
    first_made a.r _ (numbers_in (width_of a.r.long) a.offsets.now) (words_in a.sizes.now) _ _ c.if-r.false c.number_in-offset.ensures refl
