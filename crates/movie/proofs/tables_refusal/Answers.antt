-- `movie::tables_refusal` meets its contract; the loop's invariant: the earlier of what was found and of the tracks from i on is the refusal.
-- Assumes nothing.
use mathlib.Core.Path.{sym, ap, ◌∙◌}
use native.Mathlib.Omega.{arith}
use Rattle.refusals.specs.Refusals.{code}
use Rattle.structure.specs.ByTracks.{earlier_of, of_track, of_tracks}
use Rattle.structure.specs.Movie.{moov_of, tracks_of}
use Rattle.movie.specs.TableRows.{table_rows}
use Rattle.movie.proofs.Tables.{track-rows, tables_by_tracks}
use Rattle.movie.proofs.Traks.{in_tracks, in_room, body_is, body_parts, body_fits, found_past, found_more}
use Rattle.movie.proofs.tables_refusal.Goals as goal

pub own_refusal-found-requires : goal.own_refusal-found-requires
own_refusal-found-requires c = (c.requires.0, c.requires.1)

pub loop-i-init : goal.loop-i-init
loop-i-init c =
    let a = c.args in
    let m = moov_of a.lent.now in (
      omega arith,
      ap (λ x. earlier_of x (of_tracks (table_rows a.source a.scale a.len) (tracks_of m))) c.own_refusal-found.ensures
          ∙ sym (tables_by_tracks a.source a.scale a.len m c.requires.1),
    )

pub trak_at-trak-requires : goal.trak_at-trak-requires
trak_at-trak-requires c = in_room _ _ _ c.requires.0 c.loop-i.i c.loop-i-test.true

pub part_of-requires : goal.part_of-requires
part_of-requires c = tt

pub refusal-next-requires : goal.refusal-next-requires
refusal-next-requires c = (body_parts _ _ _ c.requires.0 c.loop-i.i c.loop-i-test.true _ c.trak_at-trak.ensures _ c.part_of.ensures, body_fits _ _ _ c.requires.0 c.loop-i.i c.loop-i-test.true _ c.trak_at-trak.ensures _ c.part_of.ensures c.requires.2)

pub earlier_refusal-found-requires : goal.earlier_refusal-found-requires
earlier_refusal-found-requires c = tt

pub overflow_add-i : goal.overflow_add-i
overflow_add-i c = record { fits = omega (arith, in_room _ _ _ c.requires.0 c.loop-i.i c.loop-i-test.true) }

pub loop-i-smaller : goal.loop-i-smaller
loop-i-smaller c = omega (arith, c.loop-i-test.true)

pub loop-i-preserved : goal.loop-i-preserved
loop-i-preserved c =
    let a = c.args in
    let rs = table_rows a.source a.scale a.len in
    let b = body_is _ _ _ c.requires.0 c.loop-i.i c.loop-i-test.true _ c.trak_at-trak.ensures _ c.part_of.ensures in (
      omega (arith, c.loop-i-test.true),
      found_more _ c.loop-i.i (in_tracks _ _ _ c.requires.0 c.loop-i.i c.loop-i-test.true) rs (code c.loop-i.found) _ _ (c.refusal-next.ensures ∙ track-rows _ _ _ _ ∙ ap (of_track rs) b) c.earlier_refusal-found.ensures ∙ c.loop-i.invariant.1,
    )

pub returns : goal.returns
returns c = sym (found_past _ c.loop-i.i _ (code c.loop-i.found) (omega (arith, c.requires.0.count, c.loop-i-test.false))) ∙ c.loop-i.invariant.1
