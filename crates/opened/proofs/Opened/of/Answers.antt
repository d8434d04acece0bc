-- `opened::Opened::of` meets its contract: each way out is one of the answers.
-- Assumes nothing.
use mathlib.Core.Path.{refl, sym, ◌∙◌}
use Rattle.refusals.proofs.Numbers.{passed}
use Rattle.movie.proofs.Refused.{code_err, code_ok}
use Rattle.questions.proofs.Asking.{asked_total, ask_body, ask_parts}
use Rattle.opened.proofs.Answers.{open_refused, open_track}
use Rattle.opened.proofs.Opened.of.Goals as goal

pub returns-in_err-asked : goal.returns-in_err-asked
returns-in_err-asked c = rw (passed c.from_residual.result _ c.from_residual.ensures.1) (open_refused _ _ _ _ (code_err _ _ _ c.of.ensures.refusal c.in_err-asked.was))

pub tables_in-tables-requires : goal.tables_in-tables-requires
tables_in-tables-requires c = let k = c.of.ensures.trak _ c.in_ok-asked.was in rw k.body k.parts

pub scale_in-requires : goal.scale_in-requires
scale_in-requires c = ask_parts _ _ _ _ c.of.ensures _ c.in_ok-asked.was _ c.part_of-body.ensures

pub media_total-requires : goal.media_total-requires
media_total-requires c =
    let o = c.of.ensures in
    let q = c.in_ok-asked.was in
    (ask_parts _ _ _ _ o _ q _ c.part_of-body.ensures, asked_total _ _ _ _ 0 (sym (code_ok _ _ _ o.refusal q)) refl (ask_body _ _ _ _ o _ q _ c.part_of-body.ensures))

pub returns : goal.returns
returns c =
    let o = c.of.ensures in
    let q = c.in_ok-asked.was in
    let k = o.trak _ q in
    let h = ask_parts _ _ _ _ o _ q _ refl in
    open_track _ _ _ _ _ _ _ _ _ _ _ _ _ _ _ (code_ok _ _ _ o.refusal q) k.body c.tables_in-tables.ensures (c.part_within.ensures ∙ h.elst) c.part_of-body.ensures
    c.part_of.ensures c.part_of-2.ensures refl c.u32_at.ensures c.u32_at-2.ensures c.scale_in.ensures (o.movie _ q) c.media_total.ensures
