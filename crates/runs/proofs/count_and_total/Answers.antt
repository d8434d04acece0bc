-- `runs::count_and_total` meets its contract: what the runs not yet read must count decides what all of them must; what is added and what they expand to make
-- up all, and the sum so far is at most the largest number for each sample counted.
-- Assumes nothing.
use lib.Dec.{lit≤}
use borrow.Author.Tests.{eq-eqb, ne_eqb}
use Prim.Native.Nat.{◌*◌, ◌≤◌}
use mathlib.Core.Path.{sym, ap, ◌∙◌}
use native.Mathlib.Nat.{mul-le-mul_left}
use native.Mathlib.Omega.{arith}
use Rattle.bigendian.proofs.Entries.{begins, comes, none_comes, entry_u32}
use Rattle.lists.specs.Lists.{sum, expand}
use Rattle.runs.specs.Runs.{runs_in}
use Rattle.runs.specs.Computed.{counting}
use Rattle.runs.proofs.Sums.{adds_next, adds_end, total_where, total_unless}
use Rattle.runs.proofs.Turns.{runs-in, spread_in, count_zero, count_over, count_next, count_end}
use Rattle.runs.proofs.count_and_total.Goals as goal

pub loop-entry-init : goal.loop-entry-init
loop-entry-init c =
    let begin = begins c.into_iter-entry-iterator.ensures.into_iter_gives c.chunks_exact-entry-items.ensures.rest c.chunks_exact-entry-items.ensures.size c.after.ensures in
    let a = c.args in
    let s = a.table.now in (
      begin.size,
      ap (λ l. counting a.samples (runs_in l)) begin.rest ∙ sym (ap (counting a.samples) (runs-in s)),
      omega (arith, ap (λ l. sum (expand (runs_in l))) begin.rest, ap sum (spread_in s)),
      omega arith,
      omega arith,
    )

pub returns-then-count-eq0 : goal.returns-then-count-eq0
returns-then-count-eq0 c = let e = comes c.loop-entry.entry-iterator c.next.new.self c.loop-entry.invariant.0 c.in-Some.entry c.in-Some.ensures.steps in total_unless _ (sym c.loop-entry.invariant.1 ∙ count_zero _ _ _ (c.u32_at-count.ensures ∙ entry_u32 e 0 (lit≤ tt)) e.long c.if-count-eq0.true)

pub returns-then-rest-count : goal.returns-then-rest-count
returns-then-rest-count c = let e = comes c.loop-entry.entry-iterator c.next.new.self c.loop-entry.invariant.0 c.in-Some.entry c.in-Some.ensures.steps in total_unless _ (sym c.loop-entry.invariant.1 ∙ count_over _ _ _ (c.u32_at-count.ensures ∙ entry_u32 e 0 (lit≤ tt)) e.long c.if-count-eq0.false c.if-rest-count.true)

pub overflow_mul-total : goal.overflow_mul-total
overflow_mul-total c =
    let product : c.u32_at-count.result * c.u32_at.result ≤ c.u32_at-count.result * 4294967295 = mul-le-mul_left c.u32_at-count.result (omega arith) in
    omega (arith, product)

pub overflow_add-total : goal.overflow_add-total
overflow_add-total c =
    let product : c.u32_at-count.result * c.u32_at.result ≤ c.u32_at-count.result * 4294967295 = mul-le-mul_left c.u32_at-count.result (omega arith) in
    let l = c.loop-entry in omega (arith, product, l.invariant.3, l.invariant.4, c.if-rest-count.false)

pub loop-entry-preserved : goal.loop-entry-preserved
loop-entry-preserved c =
    let e = comes c.loop-entry.entry-iterator c.next.new.self c.loop-entry.invariant.0 c.in-Some.entry c.in-Some.ensures.steps in
    let product : c.u32_at-count.result * c.u32_at.result ≤ c.u32_at-count.result * 4294967295 = mul-le-mul_left c.u32_at-count.result (omega arith) in
    let l = c.loop-entry in
    let h = e.long in
    rw e.rest (
      e.size,
      sym (count_next _ _ _ (c.u32_at-count.ensures ∙ entry_u32 e 0 (lit≤ tt)) h c.if-count-eq0.false c.if-rest-count.false) ∙ l.invariant.1,
      adds_next _ _ _ h (c.u32_at-count.ensures ∙ entry_u32 e 0 (lit≤ tt)) (c.u32_at.ensures ∙ entry_u32 e 4 (lit≤ tt)) l.invariant.2,
      omega (arith, l.invariant.3),
      omega (arith, product, l.invariant.3, l.invariant.4, c.if-rest-count.false),
    )

pub returns-then-rest-ne0 : goal.returns-then-rest-ne0
returns-then-rest-ne0 c =
    let end = none_comes c.loop-entry.entry-iterator c.next.new.self c.loop-entry.invariant.0 c.in-None.ensures.steps in
    let l = c.loop-entry in
    total_unless _ (sym l.invariant.1 ∙ count_end _ _ end ∙ ne_eqb _ 0 c.if-rest-ne0.true)

pub returns : goal.returns
returns c =
    let end = none_comes c.loop-entry.entry-iterator c.next.new.self c.loop-entry.invariant.0 c.in-None.ensures.steps in
    let l = c.loop-entry in
    total_where (sym l.invariant.1 ∙ count_end _ _ end ∙ eq-eqb _ 0 c.if-rest-ne0.false) (adds_end _ _ _ end l.invariant.2)
