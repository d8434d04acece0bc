-- `words::word_at` meets its contract: the number stands at four times its index, or the index is past the last.
-- Assumes nothing.
use mathlib.Core.Path.{sym, ◌∙◌}
use native.Mathlib.Omega.{arith}
use Rattle.words.proofs.Turns.{words_at, words_past}
use Rattle.words.proofs.word_at.Goals as goal

pub whole32-requires : goal.whole32-requires
whole32-requires c = omega (arith, c.if-index-part.true)

pub returns-then-index-part : goal.returns-then-index-part
returns-then-index-part c = c.whole32.ensures ∙ sym (words_at _ _ c.if-index-part.true)

pub returns : goal.returns
returns c = sym (words_past _ _ c.if-index-part.false)
