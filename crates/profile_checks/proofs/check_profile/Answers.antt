-- `profile_checks::check_profile` meets its contract: the profile is judged where the track is accepted.
-- Assumes nothing.
use mathlib.Core.Path.{refl}
use Rattle.refusals.proofs.Numbers.{passed}
use Rattle.movie.proofs.Refused.{code_err, code_ok}
use Rattle.questions.proofs.Asking.{ask_body, ask_parts}
use Rattle.feature_questions.proofs.Askable.{asked_computable, asked_averaged}
use Rattle.profile_checks.proofs.Answers.{not_checked, checked}
use Rattle.profile_checks.proofs.check_profile.Goals as goal

pub returns-in_err-asked : goal.returns-in_err-asked
returns-in_err-asked c = rw (passed c.from_residual.result _ c.from_residual.ensures.1) (not_checked _ _ _ _ (code_err _ _ _ c.of.ensures.refusal c.in_err-asked.was))

pub first_fault-requires : goal.first_fault-requires
first_fault-requires c =
    let o = c.of.ensures in
    let q = c.in_ok-asked.was in
    let z = code_ok _ _ _ o.refusal q in
    let d = ask_body _ _ _ _ o _ q _ c.part_of-body.ensures in
    (ask_parts _ _ _ _ o _ q _ c.part_of-body.ensures, asked_computable _ _ _ _ z d, asked_averaged _ _ _ _ z d _ _ refl (o.movie _ q))

pub returns : goal.returns
returns c =
    let o = c.of.ensures in
    let q = c.in_ok-asked.was in
    checked _ _ _ _ _ _ _ _ (code_ok _ _ _ o.refusal q) refl (o.movie _ q) (ask_body _ _ _ _ o _ q _ c.part_of-body.ensures) c.first_fault.ensures c.to_fault.ensures
