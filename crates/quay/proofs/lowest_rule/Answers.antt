-- `quay::lowest_rule` meets its contract. The loop's invariant: the tracks from i on say, beside what was found, what all say.
-- Assumes nothing.
use native.Mathlib.Omega.{arith}
use Prim.Native.Nat.{◌-◌}
use mathlib.Core.Path.{ap, ◌∙◌}
use Rattle.structure.specs.ByTracks.{of_track}
use Rattle.structure.specs.Track.{id_of}
use Rattle.movie.proofs.Traks.{in_tracks, in_room, body_is, body_parts}
use Rattle.quay_tracks.specs.Profile.{quay_rules}
use Rattle.quay.proofs.Lowest.{lowering_start, lowering_next, quay_rise, is_broken}
use Rattle.quay.proofs.lowest_rule.Goals as goal

pub loop-i-init : goal.loop-i-init
loop-i-init c = (omega arith, lowering_start 0 _ (quay_rise _) _)

pub trak_at-trak-requires : goal.trak_at-trak-requires
trak_at-trak-requires c = in_room _ _ _ c.requires.0 c.loop-i.i c.loop-i-test.true

pub track_rule-next-requires : goal.track_rule-next-requires
track_rule-next-requires c = (body_parts _ _ _ c.requires.0 c.loop-i.i c.loop-i-test.true _ c.trak_at-trak.ensures _ c.part_of-body.ensures, rw (body_is _ _ _ c.requires.0 c.loop-i.i c.loop-i-test.true _ c.trak_at-trak.ensures _ c.part_of-body.ensures) (c.requires.1 c.loop-i.i (in_tracks _ _ _ c.requires.0 c.loop-i.i c.loop-i-test.true)))

pub id_in-requires : goal.id_in-requires
id_in-requires c = body_parts _ _ _ c.requires.0 c.loop-i.i c.loop-i-test.true _ c.trak_at-trak.ensures _ c.part_of-body.ensures

pub overflow_add-i : goal.overflow_add-i
overflow_add-i c = record { fits = omega (arith, in_room _ _ _ c.requires.0 c.loop-i.i c.loop-i-test.true) }

pub loop-i-smaller : goal.loop-i-smaller
loop-i-smaller c = omega (arith, c.loop-i-test.true)

pub loop-i-preserved : goal.loop-i-preserved
loop-i-preserved c = let a = c.args in (omega (arith, c.loop-i-test.true), lowering_next 0 (quay_rules a.movie) (quay_rise a.movie) _ _ _ _ c.loop-i.invariant.1 (in_tracks _ _ _ c.requires.0 c.loop-i.i c.loop-i-test.true) _ _ _ _ (c.track_rule-next.ensures ∙ ap (of_track (quay_rules a.movie)) (body_is _ _ _ c.requires.0 c.loop-i.i c.loop-i-test.true _ c.trak_at-trak.ensures _ c.part_of-body.ensures)) c.earlier_of-lower.ensures (c.id_in.ensures ∙ ap id_of (body_is _ _ _ c.requires.0 c.loop-i.i c.loop-i-test.true _ c.trak_at-trak.ensures _ c.part_of-body.ensures)) c.id_for-id.ensures)

pub returns : goal.returns
returns c = is_broken _ _ _ _ _ c.loop-i.invariant.1 (omega (arith, c.requires.0.count, c.loop-i-test.false))
