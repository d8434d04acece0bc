-- `room_pairs::put_listed` meets its contract: the loop keeps what `Passing` says, a chunk a turn.
-- Assumes nothing.
use mathlib.Core.Path.{sym, ◌∙◌}
use native.Mathlib.Omega.{arith}
use Rattle.std.proofs.lemmas.List.{length-map}
use Rattle.words.proofs.Turns.{offsets_of}
use Rattle.pairs.proofs.Counting.{place_fits}
use Rattle.pairs.proofs.Listing.{passing_start, passing_begin, passing_turn, passing_less, sizes_there, is_ahead, listing_fits, listing_total, listing_end}
use Rattle.room_pairs.proofs.Rooms.{same_length}
use Rattle.room_pairs.proofs.put_listed.Goals as goal

pub loop-part-init : goal.loop-part-init
loop-part-init g c = passing_start _ c.requires c.sizes_to-sizes.ensures.0 (omega (arith, c.well_formed))

pub overflow_add-first : goal.overflow_add-first
overflow_add-first g c =
    let h = place_fits _ _ _ _ _ c.loop-part.invariant.walk.place (is_ahead c.loop-part.invariant.walk (sym c.is_whole.ensures ∙ c.loop-part-test.true)) c.requires.short c.ranges.chunks.fits (λ x. (c.type_inv.stsc x).fits) c.ranges.stop.fits in
    record { fits = omega (arith, h.1) }

pub listed_bytes-length-requires : goal.listed_bytes-length-requires
listed_bytes-length-requires g c = sizes_there c.loop-part.invariant.walk (sym c.is_whole.ensures ∙ c.loop-part-test.true)

pub overflow_mul-n : goal.overflow_mul-n
overflow_mul-n g c =
    let f = listing_fits c.loop-part.invariant.walk (sym c.is_whole.ensures ∙ c.loop-part-test.true) (λ x. record { offset = c.number_in-offset.ensures x; length = c.listed_bytes-length.ensures x }) (sym (offsets_of _ c.is_long-long.ensures c.after-part.ensures)) c.requires.room.total in
    record { fits = omega (arith, f.2, c.loop-part.invariant.walk.filling.same, length-map c.args.room.now g.N.RoomNumber.value, c.well_formed) }

pub overflow_add-start : goal.overflow_add-start
overflow_add-start g c =
    let f = listing_fits c.loop-part.invariant.walk (sym c.is_whole.ensures ∙ c.loop-part-test.true) (λ x. record { offset = c.number_in-offset.ensures x; length = c.listed_bytes-length.ensures x }) (sym (offsets_of _ c.is_long-long.ensures c.after-part.ensures)) c.requires.room.total in
    record { fits = omega (arith, f.2, c.loop-part.invariant.walk.filling.same, length-map c.args.room.now g.N.RoomNumber.value, c.well_formed) }

pub put_pair-requires : goal.put_pair-requires
put_pair-requires g c = listing_fits c.loop-part.invariant.walk (sym c.is_whole.ensures ∙ c.loop-part-test.true) (λ x. record { offset = c.number_in-offset.ensures x; length = c.listed_bytes-length.ensures x }) (sym (offsets_of _ c.is_long-long.ensures c.after-part.ensures)) c.requires.room.total

pub overflow_add-bytes : goal.overflow_add-bytes
overflow_add-bytes g c = record { fits = listing_total c.loop-part.invariant.walk (sym c.is_whole.ensures ∙ c.loop-part-test.true) (λ x. record { offset = c.number_in-offset.ensures x; length = c.listed_bytes-length.ensures x }) (sym (offsets_of _ c.is_long-long.ensures c.after-part.ensures)) c.requires.room.total }

pub overflow_add-n : goal.overflow_add-n
overflow_add-n g c =
    let f = listing_fits c.loop-part.invariant.walk (sym c.is_whole.ensures ∙ c.loop-part-test.true) (λ x. record { offset = c.number_in-offset.ensures x; length = c.listed_bytes-length.ensures x }) (sym (offsets_of _ c.is_long-long.ensures c.after-part.ensures)) c.requires.room.total in
    record { fits = omega (arith, f.2, c.loop-part.invariant.walk.filling.same, length-map c.args.room.now g.N.RoomNumber.value, c.well_formed) }

pub sizes_past-others-requires : goal.sizes_past-others-requires
sizes_past-others-requires g c = sizes_there c.loop-part.invariant.walk (sym c.is_whole.ensures ∙ c.loop-part-test.true)

pub loop-part-smaller : goal.loop-part-smaller
loop-part-smaller g c = passing_less c.loop-part.invariant (sym c.is_whole.ensures ∙ c.loop-part-test.true) c.next_cursor-c.ensures

pub loop-part-preserved : goal.loop-part-preserved
loop-part-preserved g c =
    let h = place_fits _ _ _ _ _ c.loop-part.invariant.walk.place (is_ahead c.loop-part.invariant.walk (sym c.is_whole.ensures ∙ c.loop-part-test.true)) c.requires.short c.ranges.chunks.fits (λ x. (c.type_inv.stsc x).fits) c.ranges.stop.fits in
    passing_turn c.loop-part.invariant (sym c.is_whole.ensures ∙ c.loop-part-test.true) (λ x. record { offset = c.number_in-offset.ensures x; length = c.listed_bytes-length.ensures x }) (sym (offsets_of _ c.is_long-long.ensures c.after-part.ensures)) c.put_pair.ensures c.sizes_past-others.ensures c.next_cursor-c.ensures h.1

pub overflow_sub-passed : goal.overflow_sub-passed
overflow_sub-passed g c = c.loop-part.invariant.within

pub place_by-requires : goal.place_by-requires
place_by-requires g c = (c.loop-part.invariant.fits, passing_begin c.loop-part.invariant c.sizes_to-sizes.ensures.0 (omega (arith, c.well_formed)) c.ranges.stop.fits)

pub overflow_mul-result : goal.overflow_mul-result
overflow_mul-result g c = record { fits = omega (arith, c.loop-part.invariant.walk.filling.few, c.loop-part.invariant.walk.filling.same, length-map c.args.room.now g.N.RoomNumber.value, c.well_formed) }

pub overflow_add-result : goal.overflow_add-result
overflow_add-result g c = record { fits = omega (arith, c.loop-part.invariant.walk.filling.few, c.loop-part.invariant.walk.filling.same, length-map c.args.room.now g.N.RoomNumber.value, c.well_formed) }

pub shape_of-room : goal.shape_of-room
shape_of-room g c = same_length g.N.RoomNumber.value _ _ c.loop-part.invariant.walk.filling.same

pub returns : goal.returns
returns g c = rw c.place_by.ensures (listing_end c.loop-part.invariant.walk)
