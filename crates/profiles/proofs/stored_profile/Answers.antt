-- `profiles::stored_profile` meets its contract: each way out is one of the answers of the question.
-- Assumes nothing.
use mathlib.Core.Path.{◌∙◌}
use native.Mathlib.Omega.{arith}
use Rattle.refusals.proofs.Numbers.{passed}
use Rattle.movie.proofs.Refused.{code_err, code_ok}
use Rattle.profiles.proofs.Answers.{refused_profile, short_profile, whole_profile}
use Rattle.profiles.proofs.stored_profile.Goals as goal

pub returns-in_err-part : goal.returns-in_err-part
returns-in_err-part c = rw (passed c.from_residual.result _ c.from_residual.ensures.1) (refused_profile _ _ _ _ _ (code_err _ _ _ c.ask_profile.ensures.refusal c.in_err-part.was))

pub returns-then-room-n : goal.returns-then-room-n
returns-then-room-n c =
    let a = c.ask_profile.ensures in
    short_profile _ _ _ _ _ _ (code_ok _ _ _ a.refusal c.in_ok-part.was) (c.part_of-profile.ensures ∙ a.profile _ c.in_ok-part.was) c.kept_count-n.ensures c.if-room-n.true

pub put_records-requires : goal.put_records-requires
put_records-requires c = rw (← c.kept_count-n.ensures) (omega (arith, c.if-room-n.false))

pub returns : goal.returns
returns c =
    let a = c.ask_profile.ensures in
    whole_profile _ _ _ _ _ _ (code_ok _ _ _ a.refusal c.in_ok-part.was) (c.part_of-profile.ensures ∙ a.profile _ c.in_ok-part.was) c.kept_count-n.ensures _ c.if-room-n.false c.put_records.ensures
