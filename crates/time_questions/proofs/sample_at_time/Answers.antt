-- `time_questions::sample_at_time` meets its contract: stts of the track that is asked is searched.
-- Assumes nothing.
use mathlib.Core.Path.{◌∙◌}
use Rattle.refusals.proofs.Numbers.{passed}
use Rattle.movie.proofs.Refused.{code_err, code_ok}
use Rattle.questions.proofs.Asking.{ask_body, ask_parts}
use Rattle.time_questions.proofs.Mapping.{no_track_at, number_asked}
use Rattle.time_questions.proofs.sample_at_time.Goals as goal

pub returns-in_err-asked : goal.returns-in_err-asked
returns-in_err-asked c = rw (passed c.from_residual.result _ c.from_residual.ensures.1) (no_track_at _ _ _ _ _ (code_err _ _ _ c.of.ensures.refusal c.in_err-asked.was))

pub returns : goal.returns
returns c =
    let o = c.of.ensures in
    let q = c.in_ok-asked.was in
    let h = ask_parts _ _ _ _ o _ q _ c.part_of-body.ensures in
    number_asked _ _ _ _ _ _ _ _ (code_ok _ _ _ o.refusal q) (ask_body _ _ _ _ o _ q _ c.part_of-body.ensures) (c.part_of-2.ensures ∙ h.stts) (c.part_of.ensures ∙ h.stsz) c.u32_at-samples.ensures _ c.sample_number_in.ensures
