-- `return_numbers::put_return` meets its contract: five parts, one after the other.
-- Assumes nothing.
use native.Mathlib.Omega.{arith}
use Rattle.return_numbers.proofs.Again.{Whole, array_low, put_again, puts}
use Rattle.return_numbers.proofs.put_return.Goals as goal

pub put-requires-2 : goal.put-requires-2
put-requires-2 c =
    let whole : Whole c.args.r = let g = c.well_formed.0.1.1 in
    let s = g.1.1.1.1.1.1.0 in
    record {
      refused = g.1.0.1.0.1;
      scales = s.1.0.1;
      units = g.1.1.1.1.1.1.1.0.1.0.1;
      low = array_low c.args.r.scales s.0 s.1.1;
    } in
    omega (arith, (whole).refused)

pub put_low-requires : goal.put_low-requires
put_low-requires c =
    let whole : Whole c.args.r = let g = c.well_formed.0.1.1 in
    let s = g.1.1.1.1.1.1.0 in
    record {
      refused = g.1.0.1.0.1;
      scales = s.1.0.1;
      units = g.1.1.1.1.1.1.1.0.1.0.1;
      low = array_low c.args.r.scales s.0 s.1.1;
    } in
    omega (arith, (whole).scales)

pub put-requires-4 : goal.put-requires-4
put-requires-4 c =
    let whole : Whole c.args.r = let g = c.well_formed.0.1.1 in
    let s = g.1.1.1.1.1.1.0 in
    record {
      refused = g.1.0.1.0.1;
      scales = s.1.0.1;
      units = g.1.1.1.1.1.1.1.0.1.0.1;
      low = array_low c.args.r.scales s.0 s.1.1;
    } in
    omega (arith, (whole).units)

pub returns : goal.returns
returns c =
    let whole : Whole c.args.r = let g = c.well_formed.0.1.1 in
    let s = g.1.1.1.1.1.1.0 in
    record {
      refused = g.1.0.1.0.1;
      scales = s.1.0.1;
      units = g.1.1.1.1.1.1.1.0.1.0.1;
      low = array_low c.args.r.scales s.0 s.1.1;
    } in
    let w = whole in
    put_again c.args.r w _ _ c.requires
    (puts c.args.r w _ _ _ _ _ _ c.put.ensures c.put-2.ensures c.put-3.ensures c.put_low.ensures c.put-4.ensures)
