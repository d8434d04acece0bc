-- `questions::place_of` meets its contract. The loop's invariant: no track before the place has the ID.
-- Assumes nothing.
use mathlib.Core.Path.{ap, ◌∙◌}
use native.Mathlib.Omega.{arith}
use Rattle.structure.specs.Track.{id_of}
use Rattle.movie.proofs.Traks.{in_tracks, in_room, body_is, body_parts}
use Rattle.questions.proofs.Standing.{before_none, place_none, place_here, place_next}
use Rattle.questions.proofs.place_of.Goals as goal

pub loop-i-init : goal.loop-i-init
loop-i-init c = (omega arith, before_none _ _)

pub trak_at-trak-requires : goal.trak_at-trak-requires
trak_at-trak-requires c = in_room _ _ _ c.requires c.loop-i.i c.loop-i-test.true

pub part_of-requires : goal.part_of-requires
part_of-requires c = tt

pub id_in-requires : goal.id_in-requires
id_in-requires c =
    let i = c.loop-i.i in
    body_parts _ _ _ c.requires i c.loop-i-test.true _ c.trak_at-trak.ensures _ c.part_of.ensures

pub returns-then-id_in-id : goal.returns-then-id_in-id
returns-then-id_in-id c =
    let l = c.loop-i in
    let p = c.requires in
    let t = c.loop-i-test.true in
    let b = body_is _ _ _ p l.i t _ c.trak_at-trak.ensures _ c.part_of.ensures in
    place_here _ _ l.i l.invariant.1 (in_tracks _ _ _ p l.i t) _ (c.id_in.ensures ∙ ap id_of b) c.if-id_in-id.true

pub overflow_add-i : goal.overflow_add-i
overflow_add-i c =
    let i = c.loop-i.i in
    record { fits = omega (arith, in_room _ _ _ c.requires i c.loop-i-test.true) }

pub loop-i-smaller : goal.loop-i-smaller
loop-i-smaller c = omega (arith, c.loop-i-test.true)

pub loop-i-preserved : goal.loop-i-preserved
loop-i-preserved c =
    let l = c.loop-i in
    let p = c.requires in
    let t = c.loop-i-test.true in
    let b = body_is _ _ _ p l.i t _ c.trak_at-trak.ensures _ c.part_of.ensures in
    (omega (arith, t), place_next _ _ l.i l.invariant.1 (in_tracks _ _ _ p l.i t) _ (c.id_in.ensures ∙ ap id_of b) c.if-id_in-id.false)

pub returns : goal.returns
returns c = place_none _ _ _ c.loop-i.invariant.1 (omega (arith, c.requires.count, c.loop-i.invariant.0, c.loop-i-test.false))
