-- `questions::samples::sample_by_number` meets its contract: what the tables of the track that is asked say.
-- Assumes nothing.
use mathlib.Core.Path.{sym, ◌∙◌}
use Rattle.refusals.proofs.Numbers.{ok_code, err_code, passed}
use Rattle.questions.proofs.Asking.{ask_body, ask_parts}
use Rattle.questions.proofs.Found.{no_track}
use Rattle.questions.proofs.Said.{said_asked}
use Rattle.questions.proofs.samples.sample_by_number.Goals as goal

pub returns-in_err-ask : goal.returns-in_err-ask
returns-in_err-ask c = rw (passed _ _ c.from_residual.ensures.1) (no_track _ _ _ _ _ (sym (err_code _ _ c.in_err-ask.was).0 ∙ c.of.ensures.refusal))

pub returns : goal.returns
returns c =
    let b = ask_body _ _ _ _ c.of.ensures _ c.in_ok-ask.was _ c.part_of-body.ensures in
    let h = ask_parts _ _ _ _ c.of.ensures _ c.in_ok-ask.was _ c.part_of-body.ensures in
    said_asked _ _ _ _ _ _ c.of.ensures.refusal (ok_code _ _ c.in_ok-ask.was) b _ _ _ _ _ _ _ _
    (c.part_of.ensures ∙ h.stts) (c.part_of-2.ensures ∙ h.ctts) (c.part_of-3.ensures ∙ h.stsc) (c.part_of-stsz.ensures ∙ h.stsz) (c.part_of-offsets.ensures ∙ h.offsets) (c.part_of-4.ensures ∙ h.stss)
    c.u32_at.ensures c.u32_at-2.ensures _ c.sample_of.ensures
