-- `words::chunk_offset` meets its contract: the offsets are the numbers after the head, of the table's width.
-- Assumes nothing.
use mathlib.Core.Path.{sym, ap, ◌∙◌}
use lib.ListN.{get_or}
use Rattle.words.proofs.Turns.{offsets_of}
use Rattle.words.proofs.chunk_offset.Goals as goal

pub returns : goal.returns
returns c =
    let a = c.args in
    c.number_in.ensures ∙ sym (ap (λ os. get_or os a.index 0) (offsets_of a.table.now c.is_long.ensures c.after.ensures))
