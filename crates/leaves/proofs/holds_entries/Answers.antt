-- `leaves::holds_entries` meets its contract: the sum fits 64 bits whatever the width.
-- Assumes nothing.
use native.Mathlib.Omega.{arith}
use mathlib.Core.Path.{refl}
use Rattle.leaves.specs.Leaves.{holds_entries}
use Rattle.leaves.proofs.Widths.{wide}
use Rattle.leaves.proofs.holds_entries.Goals as goal

pub overflow_mul-result : goal.overflow_mul-result
overflow_mul-result c = omega (arith, wide c.args.width c.args.n c.ranges.width.fits c.ranges.n.fits)

pub overflow_add-result : goal.overflow_add-result
overflow_add-result c = omega (arith, wide c.args.width c.args.n c.ranges.width.fits c.ranges.n.fits)

pub returns : goal.returns
unfolding holds_entries
returns c = refl
