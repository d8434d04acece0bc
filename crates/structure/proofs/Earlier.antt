-- The lesser of two refusals is the one that is judged earlier: the order of the enum is the order of judging.
-- Assumes nothing.
use mathlib.Core.Path.{◌≡◌, refl}
use mathlib.Core.Bool.{Bool, true, cond}
use lib.Dec.{eqb, leb}
use borrow.Author.Tests.{eqb-true, ne_eqb}
use native.Mathlib.Omega.{arith}
use Rattle.std.specs.Ordering.{ord_min}
use Rattle.refusals.specs.Refusals.{number, by_number}
use Rattle.refusals.specs.declared.Refusal.{Refusal}
use Rattle.refusals.specs.contracts.RefusalOrd.TheImpl.{cmp-value}
use Rattle.refusals.proofs.Numbers.{number_some, each_of, each}
use Rattle.structure.specs.Rows.{rank}
use Rattle.structure.specs.ByTracks.{earlier_of}

-- of those two
lesser_is : Refusal → Refusal → Bool
lesser_is a b = eqb (number (ord_min cmp-value.it a b)) (cond (leb (rank (number a)) (rank (number b))) (number a) (number b))

lessers : each_of (λ a. each_of (lesser_is a) by_number) by_number ≡ true
unfolding lesser_is rank
lessers = refl

pub lesser_number : (a b : Refusal) → number (ord_min cmp-value.it a b) ≡ earlier_of (number a) (number b)
unfolding lesser_is earlier_of
lesser_number a b =
    rw (ne_eqb (number a) 0 (λ e. omega (arith, number_some a)), ne_eqb (number b) 0 (λ e. omega (arith, number_some b)))
    (eqb-true _ _ (each (lesser_is a) (each (λ x. each_of (lesser_is x) by_number) lessers a) b))
