-- `shape::is_one_moov` meets its contract, by what the calls ensure.
-- Assumes nothing.
use mathlib.Core.Path.{ap}
use lib.ListN.{length}
use lib.Dec.{eqb}
use Rattle.atoms.specs.Kinds.{moov}
use Rattle.presence.proofs.And.{both_are}
use Rattle.shape.specs.Refusals.{one_moov}
use Rattle.shape.proofs.is_one_moov.Goals as goal

pub size_in-size-requires : goal.size_in-size-requires
size_in-size-requires c = tt

pub u32_at-kind-requires : goal.u32_at-kind-requires
u32_at-kind-requires c = tt

pub both-requires : goal.both-requires
both-requires c = tt

pub returns : goal.returns
unfolding one_moov
returns c =
    let s = c.args.lent.now in
    both_are c.both.ensures (ap (λ n. eqb n (length s)) c.size_in-size.ensures.value) (ap (λ k. eqb k moov) c.u32_at-kind.ensures)
