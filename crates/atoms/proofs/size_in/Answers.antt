-- `atoms::size_in` meets its contract: the parent decides which rule the definition takes.
-- Assumes nothing.
use mathlib.Core.Path.{◌≡◌}
use Rattle.atoms.proofs.Laws.{size_le}
use borrow.Author.Tests.{eq-eqb, ne_eqb}
use Rattle.atoms.specs.Atoms.{size_in}
use Rattle.atoms.proofs.size_in.Goals as goal

pub size_top-requires : goal.size_top-requires
size_top-requires c = tt

pub size_inside-requires : goal.size_inside-requires
size_inside-requires c = tt

pub returns-then-parent-eq-FILE : goal.returns-then-parent-eq-FILE
unfolding size_in
returns-then-parent-eq-FILE c =
    let a = c.args in
    let e : c.size_top.result ≡ size_in a.parent a.s.now = simp (eq-eqb _ _ c.if-parent-eq-FILE.true) c.size_top.ensures in
    record { value = e; upper_bound = rw e (size_le a.parent a.s.now) }

pub returns-else-parent-eq-FILE : goal.returns-else-parent-eq-FILE
unfolding size_in
returns-else-parent-eq-FILE c =
    let a = c.args in
    let e : c.size_inside.result ≡ size_in a.parent a.s.now = simp (ne_eqb _ _ c.if-parent-eq-FILE.false) c.size_inside.ensures in
    record { value = e; upper_bound = rw e (size_le a.parent a.s.now) }
