-- `structure::source::Source::length_of` meets its contract: the test says whether the moov is alone.
-- Assumes nothing.
use Rattle.structure.specs.Source.{length_of}
use Rattle.structure.proofs.source.Source.length_of.Goals as goal

pub returns-then-self : goal.returns-then-self
unfolding length_of
returns-then-self c = simp c.if-self.true

pub returns-else-self : goal.returns-else-self
unfolding length_of
returns-else-self c = simp c.if-self.false
