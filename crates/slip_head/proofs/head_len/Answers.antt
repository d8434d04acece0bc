-- `slip_head::head_len` meets its contract: the length of the numbers is the sum of theirs, each at most ten.
-- Assumes nothing.
use native.Mathlib.Omega.{arith}
use Rattle.leb128.proofs.Groups.{groups_count}
use Rattle.slip_head.proofs.Writes.{head_length}
use Rattle.slip_head.proofs.head_len.Goals as goal

pub overflow_add-first : goal.overflow_add-first
overflow_add-first c = let h = c.args.head in omega (arith, groups_count h.id, groups_count h.scale, groups_count h.a, groups_count h.b, groups_count h.pairs)

pub overflow_add-first-2 : goal.overflow_add-first-2
overflow_add-first-2 c = let h = c.args.head in omega (arith, groups_count h.id, groups_count h.scale, groups_count h.a, groups_count h.b, groups_count h.pairs)

pub overflow_add-result : goal.overflow_add-result
overflow_add-result c = let h = c.args.head in omega (arith, groups_count h.id, groups_count h.scale, groups_count h.a, groups_count h.b, groups_count h.pairs)

pub overflow_add-result-2 : goal.overflow_add-result-2
overflow_add-result-2 c = let h = c.args.head in omega (arith, groups_count h.id, groups_count h.scale, groups_count h.a, groups_count h.b, groups_count h.pairs)

pub overflow_add-result-3 : goal.overflow_add-result-3
overflow_add-result-3 c = let h = c.args.head in omega (arith, groups_count h.id, groups_count h.scale, groups_count h.a, groups_count h.b, groups_count h.pairs)

pub returns : goal.returns
returns c = let h = c.args.head in λ wide. omega (arith, head_length wide h)
