-- `structure::earlier_refusal` meets its contract, case by case.
-- Assumes nothing.
use mathlib.Core.Path.{sym, ap, ◌∙◌}
use Rattle.refusals.specs.Refusals.{number, code}
use Rattle.structure.specs.ByTracks.{earlier_of}
use Rattle.structure.proofs.Earlier.{lesser_number}
use Rattle.structure.proofs.Rows.{earlier_none}
use Rattle.structure.proofs.earlier_refusal.Goals as goal

pub returns-in-Err-Err : goal.returns-in-Err-Err
returns-in-Err-Err c = let w = c.in-Err-Err in rw (w.is-0, w.is-1) (ap number c.min.ensures ∙ lesser_number w.x w.y)

pub returns-in-Ok-default : goal.returns-in-Ok-default
unfolding earlier_of
returns-in-Ok-default c = rw c.in-Ok-default.is-0

pub returns-in_default-Ok : goal.returns-in_default-Ok
returns-in_default-Ok c = sym (ap (λ x. earlier_of (code c.args.a) x) (ap code c.in_default-Ok.is-1) ∙ earlier_none (code c.args.a))
