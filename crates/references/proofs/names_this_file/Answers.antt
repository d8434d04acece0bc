-- `references::names_this_file` meets its contract: the test says whether the index names anything.
-- Assumes nothing.
use borrow.Author.Tests.{eq-eqb, ne_eqb}
use mathlib.Core.Path.{ap, ◌∙◌}
use Rattle.references.specs.References.{is_this_file, names_this_file}
use Rattle.references.proofs.names_this_file.Goals as goal

pub returns-then-index-eq0 : goal.returns-then-index-eq0
unfolding names_this_file
returns-then-index-eq0 c = simp (eq-eqb _ _ c.if-index-eq0.true)

pub reference_at-requires : goal.reference_at-requires
reference_at-requires c = tt

pub is_this_file-requires : goal.is_this_file-requires
is_this_file-requires c = tt

pub returns : goal.returns
unfolding names_this_file
returns c = simp (ne_eqb _ _ c.if-index-eq0.false) (c.is_this_file.ensures ∙ ap is_this_file c.reference_at.ensures)
