-- `fragments::fragments` meets its contract: each way out is one of the answers of the question.
-- Assumes nothing.
use mathlib.Core.Path.{refl}
use Rattle.refusals.proofs.Numbers.{passed}
use Rattle.movie.proofs.Refused.{code_err, code_ok}
use Rattle.fragments.proofs.Answers.{refused_film, told_alone, told_whole}
use Rattle.fragments.proofs.fragments.Goals as goal

pub returns-in_err-refusal : goal.returns-in_err-refusal
returns-in_err-refusal c = rw (passed c.from_residual.result _ c.from_residual.ensures.1) (refused_film _ _ _ (code_err _ _ _ c.refusal.ensures c.in_err-refusal.was))

pub returns-then-source : goal.returns-then-source
returns-then-source c = told_alone _ _ (code_ok _ _ _ c.refusal.ensures c.in_ok-refusal.was) _ _ c.moov_part.ensures c.has_child-extended.ensures c.if-source.true

pub returns : goal.returns
returns c = told_whole _ _ (code_ok _ _ _ c.refusal.ensures c.in_ok-refusal.was) _ _ c.moov_part.ensures c.has_child-extended.ensures c.if-source.false _ refl _ c.has_child.ensures
