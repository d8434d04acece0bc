-- `movie::own_refusal` meets its contract: the tests that led to a return say which rows do not hold.
-- Assumes nothing.
use borrow.Author.Tests.{eq-eqb, ne_eqb}
use Rattle.structure.specs.Rows.{first}
use Rattle.movie.specs.Refusals.{same_ids, movie_scale_is_zero}
use Rattle.movie.specs.TableRows.{table_rows}
use Rattle.movie.proofs.own_refusal.Goals as goal

pub ids_repeat-requires : goal.ids_repeat-requires
ids_repeat-requires c = c.requires.0

pub returns-then-ids_repeat : goal.returns-then-ids_repeat
unfolding table_rows same_ids first
returns-then-ids_repeat c = simp (← c.ids_repeat.ensures, c.if-ids_repeat.true)

pub returns-then-scale-eq0 : goal.returns-then-scale-eq0
unfolding table_rows same_ids movie_scale_is_zero first
returns-then-scale-eq0 c = simp (← c.ids_repeat.ensures, c.if-ids_repeat.false, ← c.requires.1, eq-eqb _ _ c.if-scale-eq0.true)

pub returns : goal.returns
unfolding table_rows same_ids movie_scale_is_zero first
returns c = simp (← c.ids_repeat.ensures, c.if-ids_repeat.false, ← c.requires.1, ne_eqb _ _ c.if-scale-eq0.false)
