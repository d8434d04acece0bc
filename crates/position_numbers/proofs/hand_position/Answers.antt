-- `position_numbers::hand_position` meets its contract: the numbers handed are those of its fields.
-- Assumes nothing.
use native.Mathlib.Omega.{arith}
use Rattle.position_numbers.specs.Position.{stepper_numbers}
use Rattle.position_numbers.proofs.Again.{Fits, hands_position}
use Rattle.position_numbers.proofs.hand_position.Goals as goal

pub returns : goal.returns
unfolding stepper_numbers
returns c =
    let fits : Fits c.args.p = let g = c.well_formed.0.1.1 in
    let m = g.1.1.0.1.1 in
    let d = m.1.1.1.1.0.1.1 in
    record {
      samples = omega (arith, g.1.0);
      index = omega (arith, m.0);
      times_count = omega (arith, m.1.1.0);
      times_each = omega (arith, m.1.1.0);
      shifts_count = omega (arith, m.1.1.1.0);
      shifts_each = omega (arith, m.1.1.1.0);
      per = omega (arith, d.0);
      description = omega (arith, d.0);
      chunk = omega (arith, d.1.0);
      rest = omega (arith, d.1.1.0);
    } in
    hands_position _ _ _ _ (fits) c.hand.ensures
