-- `pair_bytes::measure_pair` meets its contract.
-- Assumes nothing.
use native.Mathlib.Omega.{arith}
use Rattle.leb128.proofs.Groups.{groups_count}
use Rattle.pair_bytes.proofs.Streaming.{one_measured}
use Rattle.pair_bytes.proofs.measure_pair.Goals as goal

pub overflow_add-result : goal.overflow_add-result
overflow_add-result c =
    let q = c.args.q in
    record { fits = omega (arith, c.number_len-first.ensures, c.number_len-second.ensures, groups_count q.offset, groups_count q.length) }

pub returns : goal.returns
returns c = one_measured _ _ _ _ c.number_len-first.ensures c.number_len-second.ensures c.is_wide.ensures
