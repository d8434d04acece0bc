-- `host_compaction::write_compact_moov` meets its contract: too few places, or case by case of the answer.
-- Assumes nothing.
use mathlib.Core.Path.{refl}
use Rattle.hand.proofs.Answered.{too_few, fills, of_case}
use Rattle.compaction.specs.Compaction.{compact_refusal, compact_numbers}
use Rattle.host_compaction.proofs.Judged.{compact_judged}
use Rattle.host_compaction.proofs.write_compact_moov.Goals as goal

pub returns-then-places-lt1 : goal.returns-then-places-lt1
unfolding compact_refusal
returns-then-places-lt1 c =
    too_few _ _ _ _ _ _ _ _ (compact_judged _ _ _) refl c.if-places-lt1.true
    (rw (c.code.ensures, c.refusal-asked.ensures) at c.or_short.ensures)

pub returns-in-Ok : goal.returns-in-Ok
unfolding compact_numbers
returns-in-Ok c =
    fills _ _ _ _ _ _ _ _ _ _ _ (compact_judged _ _ _) (of_case compact_numbers c.compact_moov.ensures.answer c.in-Ok.is)
    c.if-places-lt1.false
    c.hand.ensures
    c.compact_moov.ensures.places

pub returns-in-Err : goal.returns-in-Err
unfolding compact_numbers
returns-in-Err c =
    fills _ _ _ _ _ _ _ _ _ _ _ (compact_judged _ _ _) (of_case compact_numbers c.compact_moov.ensures.answer c.in-Err.is)
    c.if-places-lt1.false
    (rw c.from.ensures at c.hand-in-Err.ensures)
    c.compact_moov.ensures.places
