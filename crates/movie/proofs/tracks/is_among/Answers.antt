-- `movie::tracks::is_among` meets its contract. The loop's invariant: what those from i on say is what all say.
-- Assumes nothing.
use native.Mathlib.Omega.{arith}
use mathlib.Core.Path.{refl, sym, ◌∙◌}
use Rattle.movie.proofs.Repeats.{listed_here, listed_on, listed_past}
use Rattle.movie.proofs.tracks.is_among.Goals as goal

pub loop-i-init : goal.loop-i-init
loop-i-init c = (omega arith, refl)

pub offset_bounds-ids-i : goal.offset_bounds-ids-i
offset_bounds-ids-i c = record { fits = omega (arith, c.loop-i-test.true, c.requires) }

pub bounds-ids-i : goal.bounds-ids-i
bounds-ids-i c = omega (arith, c.loop-i-test.true, c.requires)

pub returns-then-ids-i : goal.returns-then-ids-i
returns-then-ids-i c = sym (listed_here _ c.loop-i.i _ _ c.loop-i-test.true (omega (arith, c.requires)) c.if-ids-i.true) ∙ c.loop-i.invariant.1

pub overflow_add-i : goal.overflow_add-i
overflow_add-i c = record { fits = omega (arith, c.loop-i-test.true, c.requires) }

pub loop-i-smaller : goal.loop-i-smaller
loop-i-smaller c = omega (arith, c.loop-i-test.true)

pub loop-i-preserved : goal.loop-i-preserved
loop-i-preserved c =
    let h = c.loop-i-test.true in
    (omega (arith, h), sym (listed_on _ c.loop-i.i _ _ h (omega (arith, c.requires)) c.if-ids-i.false) ∙ c.loop-i.invariant.1)

pub returns : goal.returns
returns c = sym (listed_past _ c.loop-i.i _ _ c.loop-i-test.false) ∙ c.loop-i.invariant.1
