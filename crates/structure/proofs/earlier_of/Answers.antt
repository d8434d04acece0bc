-- `structure::earlier_of` meets its contract: the tests that led to a return say which case holds.
-- Assumes nothing.
use borrow.Author.Tests.{eq-eqb, ne_eqb, le-leb, lt-leb}
use Rattle.structure.specs.ByTracks.{earlier_of}
use Rattle.structure.proofs.earlier_of.Goals as goal

pub returns-then-a-eq0 : goal.returns-then-a-eq0
unfolding earlier_of
returns-then-a-eq0 c = simp (eq-eqb _ _ c.if-a-eq0.true)

pub returns-then-b-eq0 : goal.returns-then-b-eq0
unfolding earlier_of
returns-then-b-eq0 c = simp (ne_eqb _ _ c.if-a-eq0.false, eq-eqb _ _ c.if-b-eq0.true)

pub rank_of-requires : goal.rank_of-requires
rank_of-requires c = tt

pub rank_of-requires-2 : goal.rank_of-requires-2
rank_of-requires-2 c = tt

pub returns-then-rank_of : goal.returns-then-rank_of
unfolding earlier_of
returns-then-rank_of c = simp (ne_eqb _ _ c.if-a-eq0.false, ne_eqb _ _ c.if-b-eq0.false, ← c.rank_of.ensures, ← c.rank_of-2.ensures, le-leb _ _ c.if-rank_of.true)

pub returns-else-rank_of : goal.returns-else-rank_of
unfolding earlier_of
returns-else-rank_of c = simp (ne_eqb _ _ c.if-a-eq0.false, ne_eqb _ _ c.if-b-eq0.false, ← c.rank_of.ensures, ← c.rank_of-2.ensures, lt-leb _ _ c.if-rank_of.false)
