-- `edits::edit_at` meets its contract, field by field.
-- Assumes nothing.
use native.Mathlib.Omega.{arith}
use Rattle.bigendian.proofs.Halves.{kept}
use Rattle.edits.proofs.edit_at.Goals as goal

pub returns : goal.returns
returns c =
    rw (kept c.i32_at.result (omega arith)) (
      λ i. record { duration = c.u32_at.ensures i; media = c.i32_at.ensures.0 i; rate = c.u32_at-2.ensures i },
      c.i32_at.ensures.1,
    )
