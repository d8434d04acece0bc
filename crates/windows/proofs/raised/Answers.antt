-- `windows::raised` meets its contract: a run that is no higher by cross-multiplication leaves the best as it is, and of another the rates are compared.
-- Assumes nothing.
use mathlib.Core.Path.{sym, ◌∙◌}
use Rattle.windows.proofs.Bests.{no_higher_known}
use Rattle.windows.proofs.Rating.{raised_none, raised_kept, raised_uncomputed, raised_higher, raised_lower}
use Rattle.windows.proofs.raised.Goals as goal

pub returns-in_err-b : goal.returns-in_err-b
returns-in_err-b c = rw c.from_residual.ensures (raised_none _ _ _ c.requires.0 c.in_err-b.was)

pub is_no_higher-requires : goal.is_no_higher-requires
is_no_higher-requires c = (c.requires.4, (c.requires.0 _ c.in_ok-b.was).1)

pub returns-then-is_no_higher : goal.returns-then-is_no_higher
returns-then-is_no_higher c = raised_kept _ _ _ c.requires.0 _ c.in_ok-b.was c.requires.3 c.requires.4 (no_higher_known _ _ _ (sym c.is_no_higher.ensures ∙ c.if-is_no_higher.true))

pub returns-in_err-r : goal.returns-in_err-r
returns-in_err-r c = rw c.from_residual-in_err-r.ensures (raised_uncomputed _ _ _ c.requires.0 _ c.in_ok-b.was (sym c.in_err-r.was ∙ c.rated.ensures.0))

pub returns-then-b-r : goal.returns-then-b-r
returns-then-b-r c = raised_higher _ _ _ c.requires.0 _ c.in_ok-b.was _ (sym c.in_ok-r.was ∙ c.rated.ensures.0) (rw c.in_ok-r.was at c.rated.ensures.1) c.if-b-r.true

pub returns : goal.returns
returns c = raised_lower _ _ _ c.requires.0 _ c.in_ok-b.was _ (sym c.in_ok-r.was ∙ c.rated.ensures.0) (rw c.in_ok-r.was at c.rated.ensures.1) c.if-b-r.false
