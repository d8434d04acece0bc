-- `feature_questions::peak_by_code` meets its contract: the peak is looked for where the track is accepted.
-- Assumes nothing.
use mathlib.Core.Path.{refl, sym}
use Rattle.refusals.proofs.Numbers.{passed}
use Rattle.movie.proofs.Refused.{code_err, code_ok}
use Rattle.questions.proofs.Asking.{ask_body, ask_parts}
use Rattle.feature_questions.proofs.Askable.{asked_computable}
use Rattle.feature_questions.proofs.Computing.{not_located, located}
use Rattle.feature_questions.proofs.peak_by_code.Goals as goal

pub returns-in_err-asked : goal.returns-in_err-asked
returns-in_err-asked c = rw (passed c.from_residual.result _ c.from_residual.ensures.1) (not_located _ _ _ _ _ (code_err _ _ _ c.of.ensures.refusal c.in_err-asked.was))

pub peak_for-requires : goal.peak_for-requires
peak_for-requires c =
    let o = c.of.ensures in
    let q = c.in_ok-asked.was in
    (ask_parts _ _ _ _ o _ q _ c.part_of.ensures, asked_computable _ _ _ _ (code_ok _ _ _ o.refusal q) (ask_body _ _ _ _ o _ q _ c.part_of.ensures))

pub returns : goal.returns
returns c =
    let o = c.of.ensures in
    let q = c.in_ok-asked.was in
    located _ _ _ _ _ _ _ (code_ok _ _ _ o.refusal q) (ask_body _ _ _ _ o _ q _ c.part_of.ensures) c.peak_for.ensures c.to_run.ensures
