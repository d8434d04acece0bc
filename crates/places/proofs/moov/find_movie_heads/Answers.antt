-- `places::moov::find_movie_heads` meets its contract: the rest of the body stands at the place, and the header is still to be found in it.
-- Assumes nothing.
use mathlib.Core.Path.{refl, sym, ◌∙◌}
use native.Mathlib.Omega.{arith}
use lib.ListN.{length-drop}
use Rattle.bigendian.proofs.Parts.{rest}
use Rattle.places.specs.Places.{part_in}
use Rattle.places.proofs.Parts.{part_at, at_front, at_next}
use Rattle.places.proofs.Movies.{heads_begin, heads_none, heads_found, heads_on}
use Rattle.places.proofs.moov.find_movie_heads.Goals as goal

pub part_of-body-requires : goal.part_of-body-requires
part_of-body-requires c = tt

pub loop-t-init : goal.loop-t-init
loop-t-init c = (rw c.part_of-body.ensures (part_at _ c.args.moov), heads_begin _ _)

pub size_in-n-requires : goal.size_in-n-requires
size_in-n-requires c = tt

pub returns-then-n-lt8 : goal.returns-then-n-lt8
returns-then-n-lt8 c = rw (← c.part_of-body.ensures) (heads_none _ _ _ _ c.size_in-n.ensures.value _ c.loop-t.invariant.1 c.if-n-lt8.true)

pub u32_at-kind-requires : goal.u32_at-kind-requires
u32_at-kind-requires c = tt

pub returns-then-kind-eq-MVHD : goal.returns-then-kind-eq-MVHD
unfolding part_in
returns-then-kind-eq-MVHD c =
    let l = c.loop-t in
    rw (← c.part_of-body.ensures)
    (heads_found _ _ _ _ c.size_in-n.ensures.value _ l.invariant.1 c.if-n-lt8.false _ (at_front _ l.t.now l.at _ l.invariant.0 c.size_in-n.ensures.upper_bound) (sym c.u32_at-kind.ensures ∙ c.if-kind-eq-MVHD.true))

pub first_part-profile-requires : goal.first_part-profile-requires
first_part-profile-requires c = tt

pub overflow_add-at : goal.overflow_add-at
overflow_add-at c =
    let h = c.loop-t.invariant.0.ends (omega (arith, c.size_in-n.ensures.upper_bound, c.if-n-lt8.false)) in
    omega (arith, h, c.size_in-n.ensures.upper_bound, c.well_formed.0.0)

pub loop-t-smaller : goal.loop-t-smaller
loop-t-smaller c =
    let t = c.loop-t.t.now in
    rw (rest c.size_in-n.result t) (omega (arith, length-drop c.size_in-n.result t, c.if-n-lt8.false))

pub loop-t-preserved : goal.loop-t-preserved
unfolding part_in
loop-t-preserved c =
    let l = c.loop-t in
    let t = l.t.now in
    let n = c.size_in-n.result in
    let h = c.size_in-n.ensures.upper_bound in
    let u = c.u32_at-kind.ensures in
    rw (rest n t) (
      at_next _ t l.at n l.invariant.0 h,
      rw (c.first_part-profile.ensures, u)
          (heads_on _ _ t n c.size_in-n.ensures.value l.profile l.invariant.1 c.if-n-lt8.false _ (at_front _ t l.at n l.invariant.0 h) refl (λ q. c.if-kind-eq-MVHD.false (u ∙ q))),
    )
