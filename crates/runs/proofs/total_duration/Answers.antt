-- `runs::total_duration` meets its contract: what is added and what the rest expands to make up all, and the sum so far fits 32 bits.
-- Assumes nothing.
use Rattle.std.specs.Slice.Iter.{chunks_exact_rest}
use lib.Dec.{lit≤}
use Prim.Native.Nat.{◌+◌, ◌*◌, ◌≤◌}
use mathlib.Core.Path.{◌≡◌, sym, ap, ◌∙◌}
use native.Mathlib.Omega.{arith}
use lib.ListN.{drop}
use Rattle.bigendian.proofs.Entries.{begins, comes, none_comes, entry_u32}
use Rattle.lists.specs.Lists.{sum, expand}
use Rattle.lists.proofs.Laws.{product_max}
use Rattle.runs.specs.Runs.{runs_in, per_sample}
use Rattle.runs.proofs.Turns.{spread_in}
use Rattle.runs.proofs.Sums.{adds_next, adds_end}
use Rattle.lists.specs.Totals.{total_of}
use Rattle.lists.proofs.Totals.{total_over, total_sum}
use Rattle.runs.proofs.total_duration.Goals as goal

pub loop-entry-init : goal.loop-entry-init
loop-entry-init c = let begin = begins c.into_iter-entry-iterator.ensures.into_iter_gives c.chunks_exact-entry-items.ensures.rest c.chunks_exact-entry-items.ensures.size c.after.ensures in let s = c.args.stts.now in (begin.size, omega arith, omega (arith, ap (λ l. sum (expand (runs_in l))) begin.rest, ap sum (spread_in s)))

pub overflow_mul-total : goal.overflow_mul-total
overflow_mul-total c =
    let product : c.u32_at-count.result * c.u32_at-each.result ≤ 18446744065119617025 = product_max _ _ (omega arith) (omega arith) in
    omega (arith, product)

pub overflow_add-total : goal.overflow_add-total
overflow_add-total c =
    let product : c.u32_at-count.result * c.u32_at-each.result ≤ 18446744065119617025 = product_max _ _ (omega arith) (omega arith) in
    omega (arith, product)

pub returns-then-total-gt4294967295 : goal.returns-then-total-gt4294967295
returns-then-total-gt4294967295 c =
    let e = comes c.loop-entry.entry-iterator c.next.new.self c.loop-entry.invariant.0 c.in-Some.entry c.in-Some.ensures.steps in
    let here : c.loop-entry.total + c.u32_at-count.result * c.u32_at-each.result + sum (expand (runs_in (drop 8 (chunks_exact_rest c.loop-entry.entry-iterator))))
    ≡ sum (per_sample c.args.stts.now) = adds_next _ _ _ e.long (c.u32_at-count.ensures ∙ entry_u32 e 0 (lit≤ tt)) (c.u32_at-each.ensures ∙ entry_u32 e 4 (lit≤ tt)) c.loop-entry.invariant.2 in
    sym (total_over _ (omega (arith, here, c.if-total-gt4294967295.true)))

pub loop-entry-preserved : goal.loop-entry-preserved
loop-entry-preserved c =
    let e = comes c.loop-entry.entry-iterator c.next.new.self c.loop-entry.invariant.0 c.in-Some.entry c.in-Some.ensures.steps in
    let here : c.loop-entry.total + c.u32_at-count.result * c.u32_at-each.result + sum (expand (runs_in (drop 8 (chunks_exact_rest c.loop-entry.entry-iterator))))
    ≡ sum (per_sample c.args.stts.now) = adds_next _ _ _ e.long (c.u32_at-count.ensures ∙ entry_u32 e 0 (lit≤ tt)) (c.u32_at-each.ensures ∙ entry_u32 e 4 (lit≤ tt)) c.loop-entry.invariant.2 in
    rw e.rest (e.size, omega (arith, c.if-total-gt4294967295.false), here)

pub returns : goal.returns
returns c = let end = none_comes c.loop-entry.entry-iterator c.next.new.self c.loop-entry.invariant.0 c.in-None.ensures.steps in sym (ap total_of (sym (adds_end _ _ _ end c.loop-entry.invariant.2)) ∙ total_sum _ c.loop-entry.invariant.1)
