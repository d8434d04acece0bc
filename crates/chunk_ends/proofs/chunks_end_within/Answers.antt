-- `chunk_ends::chunks_end_within` meets its contract: the sizes are listed, or each is the common one.
-- Assumes nothing.
use mathlib.Core.Path.{sym, ap, ◌∙◌}
use lib.ListN.{replicate}
use Rattle.words.specs.Words.{words_in}
use Rattle.words.proofs.Turns.{sizes_listed, sizes_common}
use Rattle.chunk_ends.proofs.Ends.{whole_tables}
use Rattle.chunk_ends.proofs.chunks_end_within.Goals as goal

pub returns-then-each-eq0 : goal.returns-then-each-eq0
returns-then-each-eq0 c =
    let a = c.args in
    whole_tables a.limit a.stsc.now a.offsets.now a.stsz.now c.u32_at-chunks.ensures c.is_long-long.ensures c.after-part.ensures
    (ap words_in c.after.ensures ∙ sym (sizes_listed a.stsz.now c.u32_at-each.ensures c.if-each-eq0.true)) c.listed_within.ensures

pub returns : goal.returns
returns c =
    let a = c.args in
    whole_tables a.limit a.stsc.now a.offsets.now a.stsz.now c.u32_at-chunks.ensures c.is_long-long.ensures c.after-part.ensures
    (ap (λ n. replicate n c.u32_at-each.result) c.u32_at.ensures ∙ sym (sizes_common a.stsz.now c.u32_at-each.ensures c.if-each-eq0.false)) c.common_within.ensures
