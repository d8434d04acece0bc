-- `averages::added_between` meets its contract: the units are the difference of two starts, and all fits because the samples are few.
-- Assumes nothing.
use native.Mathlib.Omega.{arith}
use Rattle.words.specs.Words.{sizes}
use Rattle.averages.proofs.Covers.{hit_few, hit_fits, starts_before, added_is}
use Rattle.averages.proofs.added_between.Goals as goal

pub overflow_cast-from : goal.overflow_cast-from
overflow_cast-from c = omega (arith, hit_few _ _ c.hit_at-from.ensures c.requires.0 (omega (arith, c.requires.1, c.requires.2)))

pub overflow_add-to : goal.overflow_add-to
overflow_add-to c = omega (arith, hit_few _ _ c.hit_at-to.ensures c.requires.0 c.requires.2)

pub overflow_cast-to : goal.overflow_cast-to
overflow_cast-to c = omega (arith, hit_few _ _ c.hit_at-to.ensures c.requires.0 c.requires.2)

pub overflow_add-result : goal.overflow_add-result
overflow_add-result c = omega (arith, hit_fits _ _ c.hit_at-to.ensures c.requires.0)

pub overflow_sub-result : goal.overflow_sub-result
overflow_sub-result c = starts_before _ (sizes c.args.stsz.now) _ _ c.hit_at-from.ensures c.hit_at-to.ensures c.requires.0 c.requires.1 c.requires.2

pub returns : goal.returns
returns c =
    let x = c.bytes_between in
    added_is _ _ _ _ c.hit_at-from.ensures c.hit_at-to.ensures c.requires.0 c.requires.1 c.requires.2 x.result x.ensures.0 x.ensures.1
