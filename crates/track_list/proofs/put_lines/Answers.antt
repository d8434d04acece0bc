-- `track_list::put_lines` meets its contract. The loop's invariant: the lines of the tracks from i on, put after those before them, are all that is put.
-- Assumes nothing.
use native.Mathlib.Omega.{arith}
use Prim.Native.Nat.{◌+◌, ◌*◌}
use mathlib.Core.Path.{◌≡◌, refl, ap, ◌∙◌}
use lib.ListN.{length, drop_of_length-le}
use lib.Seq.{length-sets}
use Rattle.structure.specs.Movie.{moov_of, tracks_of}
use Rattle.movie.proofs.Traks.{in_tracks, in_room, from_here, body_is, body_parts}
use Rattle.track_list.specs.TrackList.{line_of}
use Rattle.track_list.specs.Lines.{fields}
use Rattle.track_list.proofs.Lines.{fits_here, fits_rest, room_here, turn}
use Rattle.track_list.proofs.put_lines.Goals as goal

pub loop-i-init : goal.loop-i-init
loop-i-init c = (omega arith, c.requires.1, omega (arith, c.requires.2), refl, refl)

pub trak_at-trak-requires : goal.trak_at-trak-requires
trak_at-trak-requires c = in_room _ _ _ c.requires.0 c.loop-i.i c.loop-i-test.true

pub part_of-requires : goal.part_of-requires
part_of-requires c = tt

pub line_of-line-requires : goal.line_of-line-requires
line_of-line-requires c = (body_parts _ _ _ c.requires.0 c.loop-i.i c.loop-i-test.true _ c.trak_at-trak.ensures _ c.part_of.ensures, rw (body_is _ _ _ c.requires.0 c.loop-i.i c.loop-i-test.true _ c.trak_at-trak.ensures _ c.part_of.ensures) (fits_here _ _ _ (from_here _ c.loop-i.i (in_tracks _ _ _ c.requires.0 c.loop-i.i c.loop-i-test.true)) c.loop-i.invariant.1))

pub overflow_mul-i : goal.overflow_mul-i
overflow_mul-i c = record { fits = omega (arith, in_room _ _ _ c.requires.0 c.loop-i.i c.loop-i-test.true) }

pub put_line-requires : goal.put_line-requires
put_line-requires c = (room_here _ _ _ (from_here _ c.loop-i.i (in_tracks _ _ _ c.requires.0 c.loop-i.i c.loop-i-test.true)) (c.loop-i.i * 8) _ c.loop-i.invariant.2).0

pub overflow_add-i : goal.overflow_add-i
overflow_add-i c = record { fits = omega (arith, in_room _ _ _ c.requires.0 c.loop-i.i c.loop-i-test.true) }

pub loop-i-smaller : goal.loop-i-smaller
loop-i-smaller c = omega (arith, c.loop-i-test.true)

pub loop-i-preserved : goal.loop-i-preserved
loop-i-preserved c =
    let l = c.loop-i in
    let q = (from_here _ c.loop-i.i (in_tracks _ _ _ c.requires.0 c.loop-i.i c.loop-i-test.true)) in
    let r = (room_here _ _ _ q (l.i * 8) _ l.invariant.2).1 in
    let e = c.line_of-line.ensures ∙ ap line_of (body_is _ _ _ c.requires.0 c.loop-i.i c.loop-i-test.true _ c.trak_at-trak.ensures _ c.part_of.ensures) in
    let d = turn _ _ _ q l.room _ _ _ (l.i * 8) e c.put_line.ensures l.invariant.4 in
    let k = ap length c.put_line.ensures ∙ length-sets l.room (l.i * 8) (fields c.line_of-line.result) in
    let n : (l.i + 1) * 8 ≡ l.i * 8 + 8 = omega arith in
    (omega (arith, c.loop-i-test.true), fits_rest _ _ _ q l.invariant.1, omega (arith, r, k), k ∙ l.invariant.3, rw n d)

pub shape_of-room : goal.shape_of-room
shape_of-room c = c.loop-i.invariant.3

pub returns : goal.returns
returns c = rw (drop_of_length-le (tracks_of (moov_of c.args.lent.now)) {i = c.loop-i.i} (omega (arith, c.requires.0.count, c.loop-i-test.false))) at c.loop-i.invariant.4
