-- `pairs::whole_end` meets its contract: each way out is one of the definition's.
-- Assumes nothing.
use borrow.Author.Tests.{eq-eqb, ne_eqb, lt-ltb, le-ltb}
use native.Mathlib.Omega.{arith}
use Prim.Native.Nat.{ℕ, min}
use mathlib.Core.Path.{◌≡◌, ◌∙◌}
use mathlib.Core.Bool.{cond}
use lib.Dec.{ltb}
use native.Mathlib.Decide.{dec_lt}
use Rattle.pairs.proofs.whole_end.Goals as goal

pub returns-then-u32_at-eq0 : goal.returns-then-u32_at-eq0
returns-then-u32_at-eq0 c =
    let e = c.u32_at.ensures in
    (omega arith, λ z. absurd (z (omega (arith, e, c.if-u32_at-eq0.true))), rw (← e, eq-eqb _ 0 c.if-u32_at-eq0.true))

-- the smaller of two numbers
min_cond : (a b : ℕ) → min a b ≡ cond (ltb a b) a b
min_cond a b = elim (dec_lt a b) [
  | yes l ↦ rw (lt-ltb a b l) (omega arith)
  | no l ↦ rw (le-ltb a b (omega arith)) (omega arith)
]

pub returns : goal.returns
returns c =
    let e = c.u32_at.ensures in
    let f = c.u32_at-2.ensures in
    let m = c.min.ensures in
    (omega (arith, m), λ z. omega (arith, f, m), rw (← e, ne_eqb _ 0 c.if-u32_at-eq0.false, ← f) (m ∙ min_cond _ _))
