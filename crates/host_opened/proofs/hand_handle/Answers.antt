-- `host_opened::hand_handle` meets its contract: the numbers handed are those of its fields.
-- Assumes nothing.
use native.Mathlib.Omega.{arith}
use Rattle.host_opened.specs.Handle.{opened_numbers}
use Rattle.host_opened.proofs.Again.{Fits, hands_handle}
use Rattle.host_opened.proofs.hand_handle.Goals as goal

pub overflow_cast-h-5 : goal.overflow_cast-h-5
overflow_cast-h-5 c = record { fits = omega arith }

pub returns : goal.returns
unfolding opened_numbers
returns c =
    let fits : Fits c.args.h = let g = c.well_formed.0.1.1.1.1 in
    record {
      samples = omega (arith, g.0);
      chunks = omega (arith, g.1.0);
      scale = omega (arith, g.1.1.0);
      movie = omega (arith, g.1.1.1.0);
      total = omega (arith, g.1.1.1.1.0);
    } in
    hands_handle _ _ _ _ (fits) c.hand.ensures
