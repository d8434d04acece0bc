-- `stretch::tables::put_span` meets its contract: pairs that fit are put where there is room for them.
-- Assumes nothing.
use Rattle.stretch.proofs.Saying.{span_no_room, span_putting, span_put}
use Rattle.pair_checks.proofs.Fits.{fits_short}
use native.Mathlib.Omega.{arith}
use Rattle.std.proofs.lemmas.List.{map-id}
use Rattle.stretch.proofs.tables.put_span.Goals as goal

pub count_pairs-many-requires : goal.count_pairs-many-requires
count_pairs-many-requires c = let g = c.args in fits_short g.stsc.now g.stsz.now g.offsets.now g.chunks g.s.from g.s.stop c.requires

pub returns-then-room-many : goal.returns-then-room-many
returns-then-room-many c = let g = c.args in span_no_room g.stsc.now g.stsz.now g.offsets.now g.chunks g.s _ _ c.count_pairs-many.ensures c.if-room-many.true

pub put_pairs-put-requires : goal.put_pairs-put-requires
put_pairs-put-requires c =
    let g = c.args in
    span_putting g.stsc.now g.stsz.now g.offsets.now g.chunks g.s g.room.now _ c.count_pairs-many.ensures c.requires (λ i. (c.type_inv.stsz i).fits) (omega arith) c.if-room-many.false

pub returns : goal.returns
returns c =
    let g = c.args in
    span_put g.stsc.now g.stsz.now g.offsets.now g.chunks g.s _ _ c.count_pairs-many.ensures _ _ c.if-room-many.false c.put_pairs-put.ensures.1 (rw (map-id g.room.now, map-id _) at c.put_pairs-put.ensures.2)
