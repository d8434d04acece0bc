-- `positions::dealt::dealt_ready` meets its contract: each way out is one of the definition's.
-- Assumes nothing.
use mathlib.Core.Path.{ap, ◌∙◌}
use Rattle.positions.specs.Dealing.{ahead_of}
use Rattle.positions.proofs.Dealing.{ready_here, ready_next, too_high, some_ahead}
use Rattle.positions.proofs.dealt.dealt_ready.Goals as goal

pub returns-then-d-eq0 : goal.returns-then-d-eq0
returns-then-d-eq0 c = c.begin.ensures ∙ ap ahead_of (ready_next _ _ _ _ c.if-d-eq0.true)

pub returns-then-d-gt9223372036854775807 : goal.returns-then-d-gt9223372036854775807
returns-then-d-gt9223372036854775807 c = too_high c.args.d c.if-d-gt9223372036854775807.true ∙ ap ahead_of (ready_here _ _ _ _ c.if-d-eq0.false)

pub returns : goal.returns
returns c = some_ahead c.args.d c.if-d-eq0.false c.if-d-gt9223372036854775807.false ∙ ap ahead_of (ready_here _ _ _ _ c.if-d-eq0.false)
