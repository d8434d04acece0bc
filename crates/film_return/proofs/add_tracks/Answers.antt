-- `film_return::add_tracks` meets its contract. The loop's invariant: the tracks from i on are ahead of what was added.
-- Assumes nothing.
use native.Mathlib.Omega.{arith}
use Prim.Native.Nat.{◌-◌}
use mathlib.Core.Path.{ap, ◌∙◌}
use Rattle.movie.proofs.Traks.{in_tracks, in_room, from_here, body_is, body_parts, body_fits}
use Rattle.track_list.proofs.Lines.{fits_here, fits_rest}
use Rattle.film_return.specs.Films.{totals_of}
use Rattle.film_return.proofs.Tracks.{ahead_all, ahead_next, ahead_none}
use Rattle.film_return.proofs.add_tracks.Goals as goal

pub loop-i-init : goal.loop-i-init
loop-i-init c = (omega arith, c.requires.1, λ r s w. ahead_all _ _ r s w)

pub trak_at-trak-requires : goal.trak_at-trak-requires
trak_at-trak-requires c = omega (arith, in_room _ _ _ c.requires.0 c.loop-i.i c.loop-i-test.true)

pub part_of-requires : goal.part_of-requires
part_of-requires c = tt

pub totals_of-requires : goal.totals_of-requires
totals_of-requires c =
    let p = c.requires.0 in
    let h = c.loop-i-test.true in
    let t = c.trak_at-trak.ensures in
    let b = c.part_of.ensures in (
      body_parts _ _ _ p c.loop-i.i h _ t _ b,
      body_fits _ _ _ p c.loop-i.i h _ t _ b c.requires.2,
      rw (body_is _ _ _ p c.loop-i.i h _ t _ b) (fits_here _ _ _ (from_here _ c.loop-i.i (in_tracks _ _ _ p c.loop-i.i h)) c.loop-i.invariant.1),
    )

pub add_track-next-requires : goal.add_track-next-requires
add_track-next-requires c = tt

pub overflow_add-i : goal.overflow_add-i
overflow_add-i c = record { fits = omega (arith, in_room _ _ _ c.requires.0 c.loop-i.i c.loop-i-test.true) }

pub loop-i-smaller : goal.loop-i-smaller
loop-i-smaller c = omega (arith, c.loop-i-test.true)

pub loop-i-preserved : goal.loop-i-preserved
loop-i-preserved c =
    let p = c.requires.0 in
    let h = c.loop-i-test.true in
    let q = from_here _ c.loop-i.i (in_tracks _ _ _ p c.loop-i.i h) in
    let b = body_is _ _ _ p c.loop-i.i h _ c.trak_at-trak.ensures _ c.part_of.ensures in
    (omega (arith, h), fits_rest _ _ _ q c.loop-i.invariant.1, λ r s w. ahead_next r _ _ _ _ _ _ _ q (c.totals_of.ensures ∙ ap totals_of b) c.add_track-next.ensures (c.loop-i.invariant.2 r s w))

pub returns : goal.returns
returns c r s w = ahead_none r _ _ c.loop-i.i _ (omega (arith, c.requires.0.count, c.loop-i-test.false)) (c.loop-i.invariant.2 r s w)
