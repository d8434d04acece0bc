-- `averages::hit_at` meets its contract: below the total something is found.
-- Assumes nothing.
use mathlib.Core.Path.{sym, ◌∙◌}
use native.Mathlib.Omega.{arith}
use Rattle.runs.specs.Runs.{runs_of}
use Rattle.runs.proofs.Entries.{looked_known, looked_outside}
use Rattle.averages.proofs.Covers.{total_of}
use Rattle.averages.proofs.hit_at.Goals as goal

pub returns-in_default : goal.returns-in_default
returns-in_default c = absurd (omega (arith, c.requires.1, total_of c.args.stts.now, looked_outside (runs_of c.args.stts.now) c.args.t (sym c.look_up.ensures ∙ c.in_default.is)))

pub returns : goal.returns
returns c = (looked_known _ _ _ (sym c.look_up.ensures ∙ c.in-Some.is)).1
