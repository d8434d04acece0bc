-- What the search for a checkpoint finds.
-- Assumes nothing.
use Rattle.std.proofs.Common.{◌≡◌, ℕ, zero, suc, ◌+◌, ◌*◌, ◌<◌, ◌≤◌, leb, List, get_or, arith, leb-false, leb-true}
use Rattle.lists.proofs.Halving.{LastOf, last-passing}
use Rattle.checkpoints.specs.Points.{point_upto}

at_most : (r n : ℕ) → (0 < r → r < n) → r ≤ n
at_most zero n a = omega arith
at_most (suc r) n a = omega (arith, a (omega arith))

pub upto_known : (points : List ℕ) (count field x r : ℕ) → r ≡ point_upto points count field x
    → (r ≤ count) × (0 < r → r < count) × (0 < r → get_or points (2 * r + field) 0 ≤ x) × (r + 1 < count → x < get_or points (2 * (r + 1) + field) 0)
    × (r ≡ point_upto points count field x)
upto_known points count field x r e =
    let o : LastOf (λ i. leb (get_or points (2 * i + field) 0) x) count r = rw e (last-passing (λ i. leb (get_or points (2 * i + field) 0) x) count) in
    (at_most r count o.within, o.within, λ z. leb-true (get_or points (2 * r + field) 0) x (o.passes z), λ z. leb-false (get_or points (2 * (r + 1) + field) 0) x (o.fails z), e)
