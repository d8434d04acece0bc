-- `pairs::listed::listed_bytes` meets its contract: the sizes of the chunk's samples added.
-- Assumes nothing.
use Prim.Native.Nat.{◌*◌}
use mathlib.Core.Path.{sym}
use native.Mathlib.Omega.{arith}
use lib.Seq.{length-take-le}
use Rattle.pairs.proofs.listed.listed_bytes.Goals as goal

pub slice_bounds-sum_words-end : goal.slice_bounds-sum_words-end
slice_bounds-sum_words-end c = sym (length-take-le _ c.args.sizes.now c.requires)

pub sum_words-requires : goal.sum_words-requires
sum_words-requires c = omega (arith, length-take-le (c.args.c.per * 4) c.args.sizes.now c.requires)

pub returns : goal.returns
returns c = c.sum_words.ensures.0
