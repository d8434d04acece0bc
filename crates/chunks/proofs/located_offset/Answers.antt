-- `chunks::located_offset` meets its contract: the sum is the definition's, each part as its function says.
-- Assumes nothing.
use Prim.Native.Nat.{ℕ}
use mathlib.Core.Path.{ap, ◌∙◌}
use Rattle.lists.specs.Lists.{between}
use Rattle.words.specs.Words.{sizes}
use Rattle.chunks.specs.Computed.{located_offset}
use Rattle.chunks.proofs.located_offset.Goals as goal

pub returns : goal.returns
unfolding located_offset
returns c =
    let a = c.args in
    let e = c.bytes_between.ensures.0 ∙ ap (λ (k : ℕ). between (sizes a.stsz.now) k a.index) c.span-begin.ensures in
    cc (c.saturating_sum.ensures, c.chunk_offset.ensures, e)
