-- `stretch::stretch_from` meets its contract: each way out is one of the answers of the question.
-- Assumes nothing.
use mathlib.Core.Path.{refl, sym, ◌∙◌}
use borrow.Author.Tests.{leb-true, leb-false}
use Rattle.std.proofs.lemmas.List.{length-map}
use Rattle.refusals.proofs.Numbers.{passed}
use Rattle.movie.proofs.Refused.{code_err}
use Rattle.stretch.proofs.Spanning.{span_clear, in_span, span_body, span_parts, span_usable, span_spans, no_span, usable_below, span_order, no-room, whole_stretch}
use Rattle.stretch.proofs.Puts.{pairs_have_room}
use Rattle.stretch.proofs.stretch_from.Goals as goal

pub returns-in_err-found : goal.returns-in_err-found
returns-in_err-found g c =
    rw (passed c.from_residual.result _ c.from_residual.ensures.1) (no_span _ _ _ _ _ _ _ (code_err _ _ _ c.span_asked.ensures.refusal c.in_err-found.was))

pub has_room-requires : goal.has_room-requires
has_room-requires g c =
    let h = c.span_asked.ensures in
    let q = c.in_ok-found.was in
    let e = c.part_of-body.ensures in
    (span_parts _ _ _ _ _ _ h _ q _ e, span_usable _ _ _ _ _ _ h _ q _ e)

pub returns-then-not-has_room : goal.returns-then-not-has_room
returns-then-not-has_room g c =
    let h = c.span_asked.ensures in
    let q = c.in_ok-found.was in
    let e = c.part_of-body.ensures in
    let l = length-map c.args.room.now g.N.RoomNumber.value in
    no-room _ _ _ _ _ _ _ (span_clear _ _ _ _ _ _ h _ q) (span_body _ _ _ _ _ _ h _ q _ e) _ (span_spans _ _ _ _ _ _ h _ q _ e) _ refl
    (rw (← l) at (leb-false _ _ (sym c.has_room.ensures ∙ c.if-not-has_room.true)))

pub put_in-q-requires : goal.put_in-q-requires
put_in-q-requires g c =
    let h = c.span_asked.ensures in
    let q = c.in_ok-found.was in
    let e = c.part_of-body.ensures in
    let i = in_span _ _ _ _ _ _ h _ q in
    let d = span_body _ _ _ _ _ _ h _ q _ e in (
      span_parts _ _ _ _ _ _ h _ q _ e,
      usable_below _ _ _ _ _ i.asks d (c.requires i.asks),
      span_order _ _ _ _ _ _ i d _ (span_spans _ _ _ _ _ _ h _ q _ e),
      pairs_have_room _ _ _ c.has_room.ensures c.if-not-has_room.false,
    )

pub returns : goal.returns
returns g c =
    let h = c.span_asked.ensures in
    let q = c.in_ok-found.was in
    let e = c.part_of-body.ensures in
    let l = length-map c.args.room.now g.N.RoomNumber.value in
    whole_stretch _ _ _ _ _ _ _ (span_clear _ _ _ _ _ _ h _ q) (span_body _ _ _ _ _ _ h _ q _ e) _ (span_spans _ _ _ _ _ _ h _ q _ e) _ c.put_in-q.ensures.0 _ _
    (rw (l, c.put_in-q.ensures.0) (leb-true _ _ (sym c.has_room.ensures ∙ c.if-not-has_room.false))) c.put_in-q.ensures.1 c.put_in-q.ensures.2
