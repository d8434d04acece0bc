-- `shape::has_wrong_atoms` meets its contract: the tests that led to a return say which case holds.
-- Assumes nothing.
use mathlib.Core.Path.{sym, ap, ◌∙◌}
use mathlib.Core.Bool.{not}
use Rattle.std.proofs.lemmas.Bool.{not-true, not-false}
use Rattle.shape.specs.Refusals.{wrong_atoms}
use Rattle.shape.proofs.has_wrong_atoms.Goals as goal

pub returns-then-not-filled : goal.returns-then-not-filled
unfolding wrong_atoms
returns-then-not-filled c = simp (sym c.requires ∙ c.if-not-filled.true)

pub returns-then-not-source : goal.returns-then-not-source
unfolding wrong_atoms
returns-then-not-source c = simp (sym c.requires ∙ c.if-not-filled.false, not-true c.args.source.alone c.if-not-source.true)

pub is_one_moov-requires : goal.is_one_moov-requires
is_one_moov-requires c = tt

pub returns : goal.returns
unfolding wrong_atoms
returns c = simp (sym c.requires ∙ c.if-not-filled.false, not-false c.args.source.alone c.if-not-source.false) (ap not c.is_one_moov.ensures)
