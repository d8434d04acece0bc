-- `return_totals::add_units` meets its contract: each way out is a law of `Units`.
-- Assumes nothing.
use Prim.Native.Nat.{ℕ, ◌≤◌, ◌<◌}
use mathlib.Core.Path.{◌≡◌, refl, sym, ◌∙◌}
use mathlib.Core.List.{List}
use native.Mathlib.Omega.{arith}
use lib.ListN.{length, take, length-take}
use Rattle.return_totals.specs.Following.{place_of}
use Rattle.return_totals.proofs.Scales.{place_found, place_none, place_most}
use Rattle.return_totals.proofs.Units.{no_place, new_scale, met_scale}
use Rattle.return_totals.proofs.add_units.Goals as goal

pub returns-in-Some : goal.returns-in-Some
returns-in-Some c =
    let r = c.args.r in
    let units_long : length r.units ≡ 32 = c.well_formed.0.1.1.1.1.1.1.1.1.1.0.1.0.1 in
    let scales_long : length r.scales ≡ 32 = c.well_formed.0.1.1.1.1.1.1.1.1.0.1.0.1 in
    let found = place_found c.args.scale c.in-Some.i (take c.min-n.result r.scales) (sym c.find_scale.ensures ∙ c.in-Some.is) in
    met_scale r c.args.scale c.args.units (scales_long) (units_long) c.min-n.result c.in-Some.i c.min-n.ensures found.0
    (λ e. omega (arith, found.1, length-take c.min-n.result r.scales)) _ c.sum_of-sum.ensures _ c.over_refusal-refusal.ensures

pub returns-in-None : goal.returns-in-None
returns-in-None c =
    let r = c.args.r in
    let k = c.args.scale in
    let n = c.min-n.result in
    let units_long : length r.units ≡ 32 = c.well_formed.0.1.1.1.1.1.1.1.1.1.0.1.0.1 in
    let scales_long : length r.scales ≡ 32 = c.well_formed.0.1.1.1.1.1.1.1.1.0.1.0.1 in
    let least = place_none k (take n r.scales) (sym c.find_scale.ensures ∙ c.in-None.is) in
    let here : n ≡ place_of k (take n r.scales) = omega (arith, least, place_most k (take n r.scales), length-take n r.scales, c.min-n.ensures) in
    new_scale r k c.args.units (scales_long) (units_long) n n c.min-n.ensures (here) (omega arith) refl

pub returns-in-None-2 : goal.returns-in-None-2
returns-in-None-2 c =
    let r = c.args.r in
    let k = c.args.scale in
    let n = c.min-n.result in
    let units_long : length r.units ≡ 32 = c.well_formed.0.1.1.1.1.1.1.1.1.1.0.1.0.1 in
    let scales_long : length r.scales ≡ 32 = c.well_formed.0.1.1.1.1.1.1.1.1.0.1.0.1 in
    let least = place_none k (take n r.scales) (sym c.find_scale.ensures ∙ c.in-None.is) in
    let here : n ≡ place_of k (take n r.scales) = omega (arith, least, place_most k (take n r.scales), length-take n r.scales, c.min-n.ensures) in
    no_place r k c.args.units (scales_long) (units_long) n n c.min-n.ensures (here) (omega arith)
