-- `questions::samples::sample_of` meets its contract: each test is one of the definition's.
-- Assumes nothing.
use native.Mathlib.Omega.{arith}
use mathlib.Core.Path.{sym, ◌∙◌}
use Rattle.questions.proofs.Said.{said_zero, said_past, said_long, said-in}
use Rattle.questions.proofs.samples.sample_of.Goals as goal

pub returns-then-n-eq0 : goal.returns-then-n-eq0
returns-then-n-eq0 c = said_zero _ _ _ _ _ _ _ _ _ c.if-n-eq0.true

pub returns-then-samples-n : goal.returns-then-samples-n
returns-then-samples-n c = said_past _ _ _ _ _ _ _ _ _ c.if-n-eq0.false c.if-samples-n.true

pub returns-then-stsc-gt4294967295 : goal.returns-then-stsc-gt4294967295
returns-then-stsc-gt4294967295 c = said_long _ _ _ _ _ _ _ _ _ c.if-n-eq0.false c.if-samples-n.false c.if-stsc-gt4294967295.true

pub sample_in-requires : goal.sample_in-requires
sample_in-requires c = (omega (arith, c.if-stsc-gt4294967295.false), omega (arith, c.if-n-eq0.false, c.well_formed))

pub returns : goal.returns
returns c = c.sample_in.ensures ∙ sym (said-in _ _ _ _ _ _ _ _ _ c.if-n-eq0.false c.if-samples-n.false c.if-stsc-gt4294967295.false)
