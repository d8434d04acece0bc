-- `sample_index::looked_up` meets its contract: each table is asked by its checkpoints.
-- Assumes nothing.
use Prim.Native.Nat.{◌*◌}
use mathlib.Core.Path.{ap}
use native.Mathlib.Omega.{arith}
use lib.ListN.{length}
use Rattle.bigendian.proofs.Parts.{rest}
use Rattle.questions.proofs.Shift.{narrowed, passed_narrow}
use Rattle.sample_index.proofs.Answers.{looked_long, looked_found}
use Rattle.sample_index.proofs.looked_up.Goals as goal

pub returns-then-deals-gt4294967295 : goal.returns-then-deals-gt4294967295
returns-then-deals-gt4294967295 c = looked_long _ c.args.h _ _ _ (omega (arith, ap length c.part_of-deals.ensures, c.if-deals-gt4294967295.true))

pub overflow_cast-offset_from : goal.overflow_cast-offset_from
overflow_cast-offset_from c = let o = c.offset_from in narrowed o.result o.ensures.low

pub overflow_add-k : goal.overflow_add-k
overflow_add-k c = record { fits = omega (arith, c.requires) }

pub returns : goal.returns
returns c =
    let o = c.offset_from in
    let i = c.args.index.now in
    looked_found _ c.args.h i c.args.count _ c.timing_from.result o.result c.locate_from.result c.is_sync_rising.result _
    (rw c.part_of.ensures at c.timing_from.ensures)
    (rw (c.part_of-2.ensures, rest (2 * c.args.count) i) at o.ensures)
    (rw (c.part_of-deals.ensures, rest (4 * c.args.count) i) at c.locate_from.ensures)
    (rw c.part_of-3.ensures at c.is_sync_rising.ensures)
    (rw (passed_narrow o.result o.ensures.low, c.part_of-4.ensures, c.part_of-5.ensures) at c.sample_found.ensures)
