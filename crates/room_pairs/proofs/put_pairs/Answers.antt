-- `room_pairs::put_pairs` meets its contract: the loop keeps what `Walked` says, some chunks a turn.
-- Assumes nothing.
use mathlib.Core.Path.{sym, ◌∙◌}
use mathlib.Core.List.{[]}
use native.Mathlib.Omega.{arith}
use Rattle.std.proofs.lemmas.List.{length-map}
use Rattle.pairs.proofs.Walking.{some_remain, begins_low, past_from, past_less}
use Rattle.pairs.proofs.Counting.{place_fits, step_fits}
use Rattle.pairs.proofs.Filling.{walked_start, walked_end, walked_many, step_at, step_room, step_total, step_turn, walked_moving, walked_moved, walked_total, walked_less}
use Rattle.room_pairs.proofs.Rooms.{same_length}
use Rattle.room_pairs.proofs.put_pairs.Goals as goal

pub start_place-p-requires : goal.start_place-p-requires
start_place-p-requires g c = c.requires.short

pub loop-p-init : goal.loop-p-init
loop-p-init g c = walked_start _ _ _ _ _ _ _ _ c.start_place-p.ensures (rw (length-map c.args.room.now g.N.RoomNumber.value) c.requires)

pub common_at_once-n-requires : goal.common_at_once-n-requires
common_at_once-n-requires g c =
    let l = c.loop-p in
    let e = sym c.is_past.ensures ∙ c.loop-p-test.true in
    (some_remain _ [] [] _ _ _ _ l.invariant.place e, (place_fits _ _ _ _ _ l.invariant.place e c.requires.short c.ranges.chunks.fits (λ x. (c.type_inv.stsc x).fits) c.ranges.stop.fits).1)

pub put_chunks-total-requires : goal.put_chunks-total-requires
put_chunks-total-requires g c =
    let l = c.loop-p in
    let e = sym c.is_past.ensures ∙ c.loop-p-test.true in
    (begins_low _ [] [] _ _ _ _ l.invariant.place e, c.common_at_once-n.ensures.0, c.common_at_once-n.ensures.1, step_room l.invariant e _ c.common_at_once-n.ensures.0 c.requires.total)

pub overflow_add-total : goal.overflow_add-total
overflow_add-total g c =
    let l = c.loop-p in
    let e = sym c.is_past.ensures ∙ c.loop-p-test.true in
    record { fits = step_total l.invariant e _ c.common_at_once-n.ensures.0 c.requires.total c.put_chunks-total.ensures }

pub overflow_mul-at : goal.overflow_mul-at
overflow_mul-at g c =
    let l = c.loop-p in
    let e = sym c.is_past.ensures ∙ c.loop-p-test.true in
    record { fits = omega (arith, step_at l.invariant e c.common_at_once-n.result c.common_at_once-n.ensures.0, length-map c.args.room.now g.N.RoomNumber.value, c.well_formed) }

pub overflow_add-at : goal.overflow_add-at
overflow_add-at g c =
    let l = c.loop-p in
    let e = sym c.is_past.ensures ∙ c.loop-p-test.true in
    record { fits = omega (arith, step_at l.invariant e c.common_at_once-n.result c.common_at_once-n.ensures.0, length-map c.args.room.now g.N.RoomNumber.value, c.well_formed) }

pub place_past-next-requires : goal.place_past-next-requires
place_past-next-requires g c =
    let l = c.loop-p in
    let e = sym c.is_past.ensures ∙ c.loop-p-test.true in
    step_fits _ _ _ _ _ l.invariant.place e c.requires.short c.ranges.chunks.fits (λ x. (c.type_inv.stsc x).fits) c.ranges.stop.fits _ _ _ c.common_at_once-n.ensures.0

pub put_listed-m-requires : goal.put_listed-m-requires
put_listed-m-requires g c =
    let l = c.loop-p in
    let e = sym c.is_past.ensures ∙ c.loop-p-test.true in
    let w = c.common_at_once-n.ensures.0 in
    walked_moving (step_turn l.invariant e _ w c.put_chunks-total.ensures c.place_past-next.ensures) c.requires.total c.requires.short (past_from _ [] [] _ _ _ _ l.invariant.place e _ w.few w.some c.place_past-next.ensures)

pub overflow_add-total-in-loop-p : goal.overflow_add-total-in-loop-p
overflow_add-total-in-loop-p g c =
    let l = c.loop-p in
    let e = sym c.is_past.ensures ∙ c.loop-p-test.true in
    record { fits = walked_total (step_turn l.invariant e _ c.common_at_once-n.ensures.0 c.put_chunks-total.ensures c.place_past-next.ensures) c.requires.total c.put_listed-m.ensures }

pub loop-p-smaller : goal.loop-p-smaller
loop-p-smaller g c =
    let l = c.loop-p in
    let e = sym c.is_past.ensures ∙ c.loop-p-test.true in
    let w = c.common_at_once-n.ensures.0 in
    walked_less c.put_listed-m.ensures (rw c.place_past-next.ensures (past_less _ [] [] _ _ _ _ l.invariant.place e _ w.few w.some))

pub loop-p-preserved : goal.loop-p-preserved
loop-p-preserved g c =
    let l = c.loop-p in
    let e = sym c.is_past.ensures ∙ c.loop-p-test.true in
    walked_moved (step_turn l.invariant e _ c.common_at_once-n.ensures.0 c.put_chunks-total.ensures c.place_past-next.ensures) c.put_listed-m.ensures

pub shape_of-room : goal.shape_of-room
shape_of-room g c = same_length g.N.RoomNumber.value _ _ c.loop-p.invariant.filling.same

pub returns : goal.returns
returns g c =
    let l = c.loop-p in
    let e = sym c.is_past.ensures ∙ c.loop-p-test.false in
    let d = walked_end l.invariant e in
    (omega (arith, walked_many l.invariant e), d.0, d.1)
