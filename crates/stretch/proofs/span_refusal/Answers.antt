-- `stretch::span_refusal` meets its contract: what is asked for has the refusal.
-- Assumes nothing.
use mathlib.Core.Path.{sym}
use Rattle.refusals.proofs.Numbers.{passed}
use Rattle.movie.proofs.Refused.{code_err, code_ok}
use Rattle.stretch.specs.Stretches.{span_refusal}
use Rattle.stretch.proofs.span_refusal.Goals as goal

pub returns-in_err-span_asked : goal.returns-in_err-span_asked
unfolding span_refusal
returns-in_err-span_asked c = rw (passed c.from_residual.result _ c.from_residual.ensures.1) (sym (code_err _ _ _ c.span_asked.ensures.refusal c.in_err-span_asked.was))

pub returns : goal.returns
unfolding span_refusal
returns c = sym (code_ok _ _ _ c.span_asked.ensures.refusal c.in_ok-span_asked.was)
