-- `time_questions::media_time_of` meets its contract: the movie time is mapped where the track is accepted.
-- Assumes nothing.
use mathlib.Core.Path.{refl, sym, ◌∙◌}
use Rattle.refusals.proofs.Numbers.{passed}
use Rattle.movie.proofs.Refused.{code_err, code_ok}
use Rattle.questions.proofs.Asking.{asked_total, ask_body, ask_parts}
use Rattle.time_questions.proofs.Mapping.{not_asked, is_mapped}
use Rattle.time_questions.proofs.media_time_of.Goals as goal

pub returns-in_err-asked : goal.returns-in_err-asked
returns-in_err-asked c = rw (passed c.from_residual.result _ c.from_residual.ensures.1) (not_asked _ _ _ _ _ (code_err _ _ _ c.of.ensures.refusal c.in_err-asked.was))

pub scale_in-requires : goal.scale_in-requires
scale_in-requires c = ask_parts _ _ _ _ c.of.ensures _ c.in_ok-asked.was _ c.part_of-body.ensures

pub media_total-requires : goal.media_total-requires
media_total-requires c =
    let z = code_ok _ _ _ c.of.ensures.refusal c.in_ok-asked.was in
    (ask_parts _ _ _ _ c.of.ensures _ c.in_ok-asked.was _ c.part_of-body.ensures, asked_total _ _ _ _ 0 (sym z) refl (ask_body _ _ _ _ c.of.ensures _ c.in_ok-asked.was _ c.part_of-body.ensures))

pub returns : goal.returns
returns c =
    let o = c.of.ensures in
    let q = c.in_ok-asked.was in
    let h = ask_parts _ _ _ _ o _ q _ c.part_of-body.ensures in
    is_mapped _ _ _ _ _ _ _ _ _ _ (code_ok _ _ _ o.refusal q) (ask_body _ _ _ _ o _ q _ c.part_of-body.ensures) refl (o.movie _ q) (c.part_of.ensures ∙ h.elst) c.scale_in.ensures c.media_total.ensures _
    c.media_time_in.ensures
