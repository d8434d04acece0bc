-- `checkpoints::sums_with` meets its contract: the product fits, and both sums wrap.
-- Assumes nothing.
use Rattle.std.proofs.Common.{arith}
use Rattle.lists.proofs.Laws.{wide_mul}
use Rattle.checkpoints.proofs.sums_with.Goals as goal

pub overflow_mul-count : goal.overflow_mul-count
overflow_mul-count c = record { fits = wide_mul c.requires (omega (arith, c.well_formed)) }

pub returns : goal.returns
returns c = λ i. record { count = c.wrapping_add_u64.ensures.value i; total = c.wrapping_add_u64-2.ensures.value i }
