-- `chunk_ends::run_within` meets its contract: with samples for each chunk the bytes of each are the same.
-- Assumes nothing.
use mathlib.Core.Path.{sym, ◌∙◌}
use native.Mathlib.Omega.{arith}
use Rattle.lists.proofs.Laws.{wide_mul}
use Rattle.words.specs.Words.{numbers_in, width_of}
use Rattle.chunk_ends.proofs.RunEnds.{all_full}
use Rattle.chunk_ends.proofs.run_within.Goals as goal

pub overflow_mul-bytes : goal.overflow_mul-bytes
overflow_mul-bytes c = let f = c.ranges in record { fits = wide_mul (omega (arith, f.per)) (omega (arith, f.each)) }

pub overflow_mul-count : goal.overflow_mul-count
overflow_mul-count c = record { fits = wide_mul c.requires (omega (arith, c.ranges.per)) }

pub returns-then-bytes-limit : goal.returns-then-bytes-limit
returns-then-bytes-limit c =
    let a = c.args in
    c.offsets_within.ensures ∙ sym (all_full a.limit a.per a.each c.if-bytes-limit.true a.count a.samples (numbers_in (width_of a.long) a.offsets.now) c.if-count-per.true)
