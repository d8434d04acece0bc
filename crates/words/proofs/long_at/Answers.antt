-- `words::long_at` meets its contract: the number stands at eight times its index, or the index is past the last.
-- Assumes nothing.
use mathlib.Core.Path.{sym, ◌∙◌}
use native.Mathlib.Omega.{arith}
use lib.Dec.{lit<}
use Rattle.words.proofs.Turns.{numbers_at, numbers_past}
use Rattle.words.proofs.long_at.Goals as goal

pub whole64-requires : goal.whole64-requires
whole64-requires c = omega (arith, c.if-index-part.true)

pub returns-then-index-part : goal.returns-then-index-part
returns-then-index-part c = c.whole64.ensures ∙ sym (numbers_at 8 (lit< tt) _ _ c.if-index-part.true)

pub returns : goal.returns
returns c = sym (numbers_past 8 (lit< tt) _ _ c.if-index-part.false)
