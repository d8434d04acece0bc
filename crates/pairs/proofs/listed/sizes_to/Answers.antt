-- `pairs::listed::sizes_to` meets its contract: the sizes up to the sample, or all that there are.
-- Assumes nothing.
use borrow.Author.Rules.{rules}
use borrow.Author.Tests.{eq-eqb, ne_eqb, le-leb, lt-leb}
use Prim.Native.Nat.{ℕ, ◌<◌}
use mathlib.Core.Path.{◌≡◌, sym}
use mathlib.Core.List.{List}
use lib.ListN.{length, take}
use native.Mathlib.Omega.{arith}
use lib.Seq.{length-take-le, take_all}
use Rattle.pairs.specs.Moves.{sizes_to}
use Rattle.pairs.proofs.Listing.{listed_cut, listed_all}
use Rattle.pairs.proofs.listed.sizes_to.Goals as goal

pub returns-then-u32_at-ne0 : goal.returns-then-u32_at-ne0
unfolding sizes_to
returns-then-u32_at-ne0 c = (search rules, rw (← c.u32_at.ensures, ne_eqb _ 0 c.if-u32_at-ne0.true))

pub returns-then-stop-p : goal.returns-then-stop-p
unfolding sizes_to
returns-then-stop-p c = (search rules, rw (← c.u32_at.ensures, eq-eqb _ 0 c.if-u32_at-ne0.false, le-leb _ _ c.if-stop-p.true))

pub slice_bounds-result-end-then-n-z : goal.slice_bounds-result-end-then-n-z
slice_bounds-result-end-then-n-z c = sym (length-take-le _ c.run_sizes-z.result.now c.if-n-z.true)

pub returns-then-n-z : goal.returns-then-n-z
unfolding sizes_to
returns-then-n-z c = (listed_cut _ _ _ c.u32_at.ensures c.if-u32_at-ne0.false c.if-stop-p.false c.run_sizes-z.ensures _ c.if-n-z.true (omega arith), rw (← c.u32_at.ensures, eq-eqb _ 0 c.if-u32_at-ne0.false, lt-leb _ _ c.if-stop-p.false, ← c.run_sizes-z.ensures))

whole_list : {z : List ℕ} {n : ℕ} → length z < n → z ≡ take n z
whole_list {z} {n} h = sym (take_all n z (omega arith))

pub returns : goal.returns
unfolding sizes_to
returns c = (listed_all _ _ _ c.u32_at.ensures c.if-u32_at-ne0.false c.if-stop-p.false c.run_sizes-z.ensures (omega (arith, c.if-n-z.false)), rw (← c.u32_at.ensures, eq-eqb _ 0 c.if-u32_at-ne0.false, lt-leb _ _ c.if-stop-p.false, ← c.run_sizes-z.ensures) (whole_list c.if-n-z.false))
