-- `sync_search::is_sync_rising` meets its contract: each way out is one of the definition's.
-- Assumes nothing.
use borrow.Author.Tests.{eq-eqb, ne_eqb, lt-ltb, le-ltb}
use native.Mathlib.Omega.{arith}
use Rattle.sync_search.specs.Search.{searched_sync}
use Rattle.sync_search.proofs.Rising.{found_in, searched}
use Rattle.sync_search.proofs.is_sync_rising.Goals as goal

pub returns-then-stss-eq0 : goal.returns-then-stss-eq0
unfolding searched_sync
returns-then-stss-eq0 c = searched _ _ _ (rw (eq-eqb _ 0 c.if-stss-eq0.true))

pub returns-then-part-lt-WORD : goal.returns-then-part-lt-WORD
unfolding searched_sync
returns-then-part-lt-WORD c = searched _ _ _ (rw (ne_eqb _ 0 c.if-stss-eq0.false, ← c.after-part.ensures, lt-ltb _ 4 c.if-part-lt-WORD.true))

pub overflow_mul-i : goal.overflow_mul-i
overflow_mul-i c = omega (arith, c.last_upto-i.ensures, found_in c.after-part.result.now c.args.number c.if-part-lt-WORD.false)

pub returns : goal.returns
unfolding searched_sync
returns c = searched _ _ _ (rw (ne_eqb _ 0 c.if-stss-eq0.false, ← c.after-part.ensures, le-ltb _ 4 c.if-part-lt-WORD.false, ← c.last_upto-i.ensures, ← c.u32_at.ensures))
