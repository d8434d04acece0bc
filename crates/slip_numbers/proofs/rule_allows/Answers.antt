-- `slip_numbers::rule_allows` meets its contract: the arm says which case of `allowed` holds.
-- Assumes nothing.
use mathlib.Core.Path.{◌≡◌}
use Prim.Native.Nat.{◌≤◌, ◌<◌}
use native.Mathlib.Omega.{arith}
use native.Mathlib.Decide.{dec_lt}
use borrow.Author.Tests.{ne_eqb, lt-ltb, le-ltb, le-leb, lt-leb}
use Rattle.slip_numbers.specs.Rules.{allowed}
use Rattle.slip_numbers.proofs.rule_allows.Goals as goal

pub returns-in-0-to-2 : goal.returns-in-0-to-2
unfolding allowed
returns-in-0-to-2 c =
    let few : c.args.i < 3 = omega arith in
    let l : c.args.i < 6 = omega arith in
    simp (lt-leb _ _ l, lt-ltb _ _ few)

pub returns-in-4 : goal.returns-in-4
unfolding allowed
returns-in-4 c = rw c.in-4.is

pub returns-then-n-gt0 : goal.returns-then-n-gt0
unfolding allowed
returns-then-n-gt0 c = rw (c.in-5.is, lt-ltb _ _ c.if-n-gt0.true)

pub returns-else-n-gt0 : goal.returns-else-n-gt0
unfolding allowed
returns-else-n-gt0 c = rw (c.in-5.is, le-ltb _ _ c.if-n-gt0.false)

pub returns-in_default : goal.returns-in_default
unfolding allowed
returns-in_default c = elim (dec_lt c.args.i 6) [
  | yes l ↦
      let m : 3 ≤ c.args.i = omega arith in
      simp (lt-leb _ _ l, le-ltb _ _ m, ne_eqb c.args.i 4 (λ e. omega arith), ne_eqb c.args.i 5 (λ e. omega arith))
  | no l ↦ let m : 6 ≤ c.args.i = omega arith in simp (le-leb _ _ m)
]
