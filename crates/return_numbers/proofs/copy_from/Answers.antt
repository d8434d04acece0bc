-- `return_numbers::copy_from` meets its contract. The loop's invariant: the first i places hold the first i numbers.
-- Assumes nothing.
use Prim.Native.Nat.{ℕ}
use mathlib.Core.Path.{refl, sym}
use native.Mathlib.Omega.{arith}
use lib.ListN.{length-set}
use Rattle.return_numbers.proofs.Copies.{copy_turn, copy_all, same_all}
use Rattle.return_numbers.proofs.copy_from.Goals as goal

pub loop-i-init : goal.loop-i-init
loop-i-init c = (omega arith, refl, refl)

pub loop-i-smaller : goal.loop-i-smaller
loop-i-smaller c = omega (arith, c.loop-i-test.true, c.loop-i.invariant.1)

pub loop-i-preserved : goal.loop-i-preserved
loop-i-preserved c =
    let l = c.loop-i in
    let h = c.loop-i-test.true in (
      simp length-set (omega (arith, h)),
      simp length-set l.invariant.1,
      copy_turn (λ (x : ℕ). x) c.args.numbers.now c.args.from l.room l.i _ h (omega (arith, h, l.invariant.1, c.requires)) refl l.invariant.2,
    )

pub returns : goal.returns
returns c =
    let l = c.loop-i in
    same_all _ _ (copy_all (λ (x : ℕ). x) c.args.numbers.now c.args.from l.room l.i _ c.loop-i-test.false l.invariant.0 (sym l.invariant.1) l.invariant.2)
