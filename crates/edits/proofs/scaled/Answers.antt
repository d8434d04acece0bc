-- `edits::scaled` meets its contract: a quotient by 0 is 0, and any other is at most its numerator, a product of two 32-bit numbers.
-- Assumes nothing.
use Prim.Native.Nat.{ℕ, ◌*◌, ◌/◌, ◌≤◌}
use mathlib.Core.Path.{refl, sym, ap, ◌∙◌}
use native.Mathlib.Omega.{arith}
use native.Mathlib.Nat.{div-zero, div-le_self}
use Rattle.lists.proofs.Laws.{product_max}
use Rattle.edits.proofs.scaled.Goals as goal

pub returns-then-movie-eq0 : goal.returns-then-movie-eq0
returns-then-movie-eq0 c = let a = c.args in (sym (ap (λ (m : ℕ). a.t * a.scale / m) c.if-movie-eq0.true ∙ div-zero _), omega arith)

pub overflow_mul-result : goal.overflow_mul-result
overflow_mul-result c =
    let most : c.args.t * c.args.scale ≤ 18446744065119617025 = product_max c.args.t c.args.scale c.ranges.t.fits c.ranges.scale.fits in
    omega (arith, most)

pub returns : goal.returns
returns c =
    let most : c.args.t * c.args.scale ≤ 18446744065119617025 = product_max c.args.t c.args.scale c.ranges.t.fits c.ranges.scale.fits in
    let a = c.args in (refl, omega (arith, most, div-le_self (a.t * a.scale) a.movie))
