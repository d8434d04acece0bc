-- `host_movie::hand_edits` meets its contract: too few places, or case by case of the answer.
-- Assumes nothing.
use mathlib.Core.Path.{refl}
use Rattle.hand.proofs.Answered.{too_few, fills, of_case}
use Rattle.movie_times.specs.Entries.{edits_refusal, edits_numbers}
use Rattle.host_movie.proofs.Judged.{edits_judged}
use Rattle.host_movie.proofs.hand_edits.Goals as goal

pub returns-then-places-lt1 : goal.returns-then-places-lt1
unfolding edits_refusal
returns-then-places-lt1 c = too_few _ _ _ _ _ _ _ _ (edits_judged _ _ _ _) refl c.if-places-lt1.true (rw (← c.ask_refusal-asked.ensures, ← c.code.ensures) c.or_short.ensures)

pub returns-in-Ok : goal.returns-in-Ok
unfolding edits_numbers
returns-in-Ok c =
    fills _ _ _ _ _ _ _ _ _ _ _ (edits_judged _ _ _ _) (of_case edits_numbers c.stored_edits.ensures.answer c.in-Ok.is)
    c.if-places-lt1.false
    c.hand.ensures
    c.stored_edits.ensures.places

pub returns-in-Err : goal.returns-in-Err
unfolding edits_numbers
returns-in-Err c =
    fills _ _ _ _ _ _ _ _ _ _ _ (edits_judged _ _ _ _) (of_case edits_numbers c.stored_edits.ensures.answer c.in-Err.is)
    c.if-places-lt1.false
    (rw c.from.ensures at c.hand-in-Err.ensures)
    c.stored_edits.ensures.places
