-- `return_totals::slot_of` meets its contract.
-- Assumes nothing.
use Prim.Native.Nat.{ℕ, ◌-◌, ◌≤◌, ◌<◌}
use mathlib.Core.Path.{◌≡◌, sym}
use native.Mathlib.Omega.{arith}
use borrow.Author.Tests.{eq-eqb, ne_eqb, le-ltb, lt-ltb}
use Rattle.return_totals.specs.Returns.{slot_of}
use Rattle.return_totals.proofs.slot_of.Goals as goal

slot_low : (n : ℕ) → 1 ≤ n → n ≤ 13 → slot_of n ≡ n - 1
unfolding slot_of
slot_low n h g = rw (ne_eqb n 19 (λ e. omega arith), ne_eqb n 0 (λ e. omega arith), le-ltb 13 n g)

slot_none : (n : ℕ) → n < 1 → slot_of n ≡ 14
unfolding slot_of
slot_none n h = rw (ne_eqb n 19 (λ e. omega arith), eq-eqb n 0 (omega arith))

slot_high : (n : ℕ) → 13 < n → (n ≡ 19 → ⊥) → slot_of n ≡ 14
unfolding slot_of
slot_high n h g = rw (ne_eqb n 19 g, ne_eqb n 0 (λ e. omega arith), lt-ltb 13 n h)

pub returns-in-19 : goal.returns-in-19
unfolding slot_of
returns-in-19 c = rw (eq-eqb _ _ c.in-19.is)

pub returns-in-1-to-13 : goal.returns-in-1-to-13
returns-in-1-to-13 c = sym (slot_low c.args.number (omega arith) (omega arith))

pub returns-in_default : goal.returns-in_default
returns-in_default c = sym (slot_none c.args.number (omega arith))

pub returns-in_default-2 : goal.returns-in_default-2
returns-in_default-2 c = sym (slot_high c.args.number (omega arith) (λ e. omega (arith, e)))
