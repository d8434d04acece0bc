-- `movie_times::entries::stored_edits` meets its contract: each way out is one of the answers of the question.
-- Assumes nothing.
use mathlib.Core.Path.{◌∙◌}
use native.Mathlib.Omega.{arith}
use Rattle.refusals.proofs.Numbers.{passed}
use Rattle.movie.proofs.Refused.{code_err, code_ok}
use Rattle.questions.proofs.Asking.{ask_body, ask_parts}
use Rattle.movie_times.proofs.Stored.{edits-count}
use Rattle.movie_times.proofs.Answers.{refused_edits, short_edits, whole_edits}
use Rattle.movie_times.proofs.entries.stored_edits.Goals as goal

pub returns-in_err-asked : goal.returns-in_err-asked
returns-in_err-asked c = rw (passed c.from_residual.result _ c.from_residual.ensures.1) (refused_edits _ _ _ _ _ (code_err _ _ _ c.of.ensures.refusal c.in_err-asked.was))

pub returns-then-room-n : goal.returns-then-room-n
returns-then-room-n c =
    let o = c.of.ensures in
    let q = c.in_ok-asked.was in
    short_edits _ _ _ _ _ _ _ (code_ok _ _ _ o.refusal q) (ask_body _ _ _ _ o _ q _ c.part_of.ensures) (c.part_of-2.ensures ∙ (ask_parts _ _ _ _ o _ q _ c.part_of.ensures).elst) c.after-part.ensures c.if-room-n.true

pub put_edits-requires : goal.put_edits-requires
put_edits-requires c = rw (edits-count _) (omega (arith, c.if-room-n.false))

pub returns : goal.returns
returns c =
    let o = c.of.ensures in
    let q = c.in_ok-asked.was in
    whole_edits _ _ _ _ _ _ _ (code_ok _ _ _ o.refusal q) (ask_body _ _ _ _ o _ q _ c.part_of.ensures) (c.part_of-2.ensures ∙ (ask_parts _ _ _ _ o _ q _ c.part_of.ensures).elst) c.after-part.ensures _ c.if-room-n.false c.put_edits.ensures
