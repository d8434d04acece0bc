-- `pairs::listed::next_cursor` meets its contract.
-- Assumes nothing.
use mathlib.Core.Path.{ap, ◌∙◌}
use Rattle.chunks.specs.Cursors.{readied}
use Rattle.pairs.proofs.listed.next_cursor.Goals as goal

pub returns : goal.returns
returns c =
    let a = c.args in
    c.ready.ensures.0 ∙ ap (readied a.stsc.now a.chunks) c.pass.ensures
