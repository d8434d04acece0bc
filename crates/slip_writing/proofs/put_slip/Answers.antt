-- `slip_writing::put_slip` meets its contract: the head and the pairs are put where both fit.
-- Assumes nothing.
use mathlib.Core.Path.{sym, ◌∙◌}
use Rattle.std.proofs.Common.{rules}
use Rattle.slip_writing.proofs.Slipping.{length_fits, too_long, head_put, pairs_after, all_put}
use Rattle.slip_writing.proofs.put_slip.Goals as goal

pub overflow_add-length : goal.overflow_add-length
overflow_add-length c = record { fits = length_fits _ c.args.s c.args.head c.requires.1 _ _ (c.head_len.ensures c.measure_in-m.result.wide) c.measure_in-m.ensures }

pub returns-then-out-length : goal.returns-then-out-length
returns-then-out-length c = too_long c.args.head _ _ _ _ c.requires.3 (c.head_len.ensures c.measure_in-m.result.wide) c.measure_in-m.ensures c.if-out-length.true

pub unwrap-at-requires : goal.unwrap-at-requires
unwrap-at-requires c =
    let some = c.put_head.ensures.0 ∙ head_put c.args.head _ _ _ _ c.requires.3 (c.head_len.ensures c.measure_in-m.result.wide) c.measure_in-m.ensures c.if-out-length.false in
    rw some (search rules)

pub write_in-requires : goal.write_in-requires
write_in-requires c = (c.requires.0, c.requires.1, c.requires.2, pairs_after c.args.head _ _ _ _ c.requires.3 (c.head_len.ensures c.measure_in-m.result.wide) c.measure_in-m.ensures c.if-out-length.false _ _ (sym c.unwrap-at.ensures ∙ c.put_head.ensures.0) c.put_head.ensures.1)

pub returns : goal.returns
returns c = all_put c.args.head _ _ _ _ c.requires.3 (c.head_len.ensures c.measure_in-m.result.wide) c.measure_in-m.ensures c.if-out-length.false _ _ (sym c.unwrap-at.ensures ∙ c.put_head.ensures.0) c.put_head.ensures.1 _ _ c.write_in.ensures
