-- `places::trak::find_heads` meets its contract: the rest of the body stands at the place, and each kind is found or still to be found in the rest.
-- Assumes nothing.
use mathlib.Core.Path.{refl}
use native.Mathlib.Omega.{arith}
use lib.ListN.{length-drop}
use Rattle.bigendian.proofs.Parts.{rest}
use Rattle.places.specs.Places.{part_in}
use Rattle.places.proofs.Parts.{at_whole, at_front, at_next}
use Rattle.places.proofs.Finding.{heads_start, heads_end, heads_next}
use Rattle.places.proofs.trak.find_heads.Goals as goal

pub loop-t-init : goal.loop-t-init
loop-t-init c = (at_whole _, heads_start _)

pub size_in-n-requires : goal.size_in-n-requires
size_in-n-requires c = tt

pub returns-then-n-lt8 : goal.returns-then-n-lt8
returns-then-n-lt8 c = heads_end _ _ _ c.size_in-n.ensures.value c.if-n-lt8.true c.loop-t.found c.loop-t.invariant.1

pub u32_at-requires : goal.u32_at-requires
u32_at-requires c = tt

pub with_head-found-requires : goal.with_head-found-requires
with_head-found-requires c = tt

pub overflow_add-at : goal.overflow_add-at
overflow_add-at c =
    let h = c.loop-t.invariant.0.ends (omega (arith, c.size_in-n.ensures.upper_bound, c.if-n-lt8.false)) in
    omega (arith, h, c.size_in-n.ensures.upper_bound, c.well_formed.0.0)

pub loop-t-smaller : goal.loop-t-smaller
loop-t-smaller c =
    let t = c.loop-t.t.now in
    rw (rest c.size_in-n.result t) (omega (arith, length-drop c.size_in-n.result t, c.if-n-lt8.false))

pub loop-t-preserved : goal.loop-t-preserved
unfolding part_in
loop-t-preserved c =
    let l = c.loop-t in
    let t = l.t.now in
    let n = c.size_in-n.result in
    let h = c.size_in-n.ensures.upper_bound in
    rw (rest n t) (
      at_next _ t l.at n l.invariant.0 h,
      rw (c.with_head-found.ensures, c.u32_at.ensures)
          (heads_next _ t n c.size_in-n.ensures.value c.if-n-lt8.false l.found l.invariant.1 _ refl (at_front _ t l.at n l.invariant.0 h)),
    )
