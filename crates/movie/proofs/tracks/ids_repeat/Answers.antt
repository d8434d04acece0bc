-- `movie::tracks::ids_repeat` meets its contract. The loop's invariant: what the rest says, with the IDs kept, is what the whole says.
-- Assumes nothing.
use Prim.Native.Nat.{◌<◌}
use mathlib.Core.Path.{refl, sym, ◌∙◌}
use native.Mathlib.Omega.{arith}
use lib.ListN.{length, length-set}
use Rattle.structure.specs.Movie.{moov_of}
use Rattle.movie.specs.Tracks.{ids_of}
use Rattle.movie.proofs.Repeats.{again_none, kept_more}
use Rattle.movie.proofs.Traks.{in_tracks, in_room, its_parts, its_id, again_past, again_found, again_more}
use Rattle.movie.proofs.tracks.ids_repeat.Goals as goal

pub loop-i-init : goal.loop-i-init
loop-i-init c = (refl, omega arith, again_none (ids_of (moov_of c.args.lent.now)))

pub trak_at-requires : goal.trak_at-requires
trak_at-requires c = in_room _ _ _ c.requires c.loop-i.i c.loop-i-test.true

pub id_of-id-requires : goal.id_of-id-requires
id_of-id-requires c = its_parts _ _ _ c.requires c.loop-i.i c.loop-i-test.true _ c.trak_at.ensures

pub is_among-requires : goal.is_among-requires
is_among-requires c = (c.loop-i.invariant.0, omega (arith, in_room _ _ _ c.requires c.loop-i.i c.loop-i-test.true))

pub returns-then-is_among : goal.returns-then-is_among
returns-then-is_among c =
    let n = its_id _ _ _ c.requires c.loop-i.i c.loop-i-test.true _ c.trak_at.ensures _ c.id_of-id.ensures in
    sym (again_found _ c.loop-i.i (in_tracks _ _ _ c.requires c.loop-i.i c.loop-i-test.true) _ n _ (sym c.is_among.ensures ∙ c.if-is_among.true)) ∙ c.loop-i.invariant.2

pub offset_bounds-ids-i : goal.offset_bounds-ids-i
offset_bounds-ids-i c = record { fits = omega (arith, in_room _ _ _ c.requires c.loop-i.i c.loop-i-test.true) }

pub bounds-ids-i : goal.bounds-ids-i
bounds-ids-i c = in_room _ _ _ c.requires c.loop-i.i c.loop-i-test.true

pub overflow_add-i : goal.overflow_add-i
overflow_add-i c = record { fits = omega (arith, in_room _ _ _ c.requires c.loop-i.i c.loop-i-test.true) }

pub loop-i-smaller : goal.loop-i-smaller
loop-i-smaller c = omega (arith, c.loop-i-test.true)

pub loop-i-preserved : goal.loop-i-preserved
loop-i-preserved c =
    let l = c.loop-i in
    let n = its_id _ _ _ c.requires c.loop-i.i c.loop-i-test.true _ c.trak_at.ensures _ c.id_of-id.ensures in
    let h : l.i < length l.ids = omega (arith, l.invariant.0, in_room _ _ _ c.requires c.loop-i.i c.loop-i-test.true) in (
      length-set l.ids l.i _ ∙ l.invariant.0,
      omega (arith, c.loop-i-test.true),
      rw (kept_more l.ids l.i _ h) (sym (again_more _ l.i (in_tracks _ _ _ c.requires c.loop-i.i c.loop-i-test.true) _ n _ (sym c.is_among.ensures ∙ c.if-is_among.false)) ∙ l.invariant.2),
    )

pub returns : goal.returns
returns c = sym (again_past _ c.loop-i.i _ (omega (arith, c.requires.count, c.loop-i-test.false))) ∙ c.loop-i.invariant.2
