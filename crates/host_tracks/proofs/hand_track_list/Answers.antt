-- `host_tracks::hand_track_list` meets its contract: too few places, or case by case of the answer.
-- Assumes nothing.
use mathlib.Core.Path.{refl}
use Rattle.hand.proofs.Answered.{too_few, fills, of_case}
use Rattle.track_list.specs.TrackList.{list_refusal, track_list_numbers}
use Rattle.host_tracks.proofs.Judged.{list_judged}
use Rattle.host_tracks.proofs.hand_track_list.Goals as goal

pub returns-then-places-lt1 : goal.returns-then-places-lt1
unfolding list_refusal
returns-then-places-lt1 c = too_few _ _ _ _ _ _ _ _ (list_judged _ _ _) refl c.if-places-lt1.true (rw (← c.refusal-asked.ensures, ← c.code.ensures) c.or_short.ensures)

pub returns-in-Ok : goal.returns-in-Ok
unfolding track_list_numbers
returns-in-Ok c =
    fills _ _ _ _ _ _ _ _ _ _ _ (list_judged _ _ _) (of_case track_list_numbers c.track_list.ensures.answer c.in-Ok.is)
    c.if-places-lt1.false
    c.hand.ensures
    c.track_list.ensures.places

pub returns-in-Err : goal.returns-in-Err
unfolding track_list_numbers
returns-in-Err c =
    fills _ _ _ _ _ _ _ _ _ _ _ (list_judged _ _ _) (of_case track_list_numbers c.track_list.ensures.answer c.in-Err.is)
    c.if-places-lt1.false
    (rw c.from.ensures at c.hand-in-Err.ensures)
    c.track_list.ensures.places
