-- `host_opened_stretches::hand_opened_stretch` meets its contract: refused by the handle's length, too few places, or case by case of the answer.
-- Assumes nothing.
use Rattle.host_opened_stretches.proofs.Handed.{by_judged, stretch_short, stretch_whole}
use Rattle.hand.proofs.Answered.{too_few, fills, of_case}
use Rattle.stretch.specs.Stretches.{stretch_numbers}
use mathlib.Core.Path.{refl}
use Rattle.host_opened_stretches.proofs.hand_opened_stretch.Goals as goal

pub returns-then-handle-lt-NUMBERS : goal.returns-then-handle-lt-NUMBERS
returns-then-handle-lt-NUMBERS c = stretch_short _ _ _ _ _ _ _ _ _ c.if-handle-lt-NUMBERS.true refl refl refl

pub returns-then-places-lt2 : goal.returns-then-places-lt2
returns-then-places-lt2 c =
    let h = c.handle_in-h.result in
    stretch_whole _ _ _ _ _ _ _ _ _ c.if-handle-lt-NUMBERS.false h c.handle_in-h.ensures (
    too_few _ _ _ _ _ _ _ _ (by_judged _ h _ _ _) refl c.if-places-lt2.true (rw (← c.refusal_by-asked.ensures.said, ← c.code.ensures) c.or_short.ensures))

pub returns-in-Ok : goal.returns-in-Ok
unfolding stretch_numbers
returns-in-Ok c =
    let h = c.handle_in-h.result in
    stretch_whole _ _ _ _ _ _ _ _ _ c.if-handle-lt-NUMBERS.false h c.handle_in-h.ensures (
    fills _ _ _ _ _ _ _ _ _ _ _ (by_judged _ h _ _ _) (of_case stretch_numbers c.stretch_by.ensures.said.answer c.in-Ok.is) c.if-places-lt2.false c.hand.ensures c.stretch_by.ensures.said.places)

pub returns-in-Err : goal.returns-in-Err
unfolding stretch_numbers
returns-in-Err c =
    let h = c.handle_in-h.result in
    stretch_whole _ _ _ _ _ _ _ _ _ c.if-handle-lt-NUMBERS.false h c.handle_in-h.ensures (
    fills _ _ _ _ _ _ _ _ _ _ _ (by_judged _ h _ _ _) (of_case stretch_numbers c.stretch_by.ensures.said.answer c.in-Err.is) c.if-places-lt2.false (rw c.from.ensures at c.hand-in-Err.ensures) c.stretch_by.ensures.said.places)
