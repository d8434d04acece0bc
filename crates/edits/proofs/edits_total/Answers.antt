-- `edits::edits_total` meets its contract: what is added and the durations of the rest make up all, and the sum so far fits 32 bits.
-- Assumes nothing.
use Rattle.std.specs.Slice.Iter.{chunks_exact_rest}
use lib.Dec.{lit≤}
use Prim.Native.Nat.{◌+◌}
use mathlib.Core.Path.{◌≡◌, sym, ap, ◌∙◌}
use native.Mathlib.Omega.{arith}
use lib.ListN.{drop}
use Rattle.bigendian.proofs.Entries.{begins, comes, none_comes, entry_u32}
use Rattle.lists.specs.Lists.{sum}
use Rattle.lists.specs.Totals.{total_of}
use Rattle.lists.proofs.Totals.{total_over, total_sum}
use Rattle.edits.specs.Edits.{edits_in, durations_of, edit_total}
use Rattle.edits.proofs.Turns.{total_start, total_next, total_end}
use Rattle.edits.proofs.edits_total.Goals as goal

pub loop-entry-init : goal.loop-entry-init
loop-entry-init c = let begin = begins c.into_iter-entry-iterator.ensures.into_iter_gives c.chunks_exact-entry-items.ensures.rest c.chunks_exact-entry-items.ensures.size c.after.ensures in let s = c.args.elst.now in (begin.size, omega arith, omega (arith, ap (λ l. sum (durations_of (edits_in l))) begin.rest, total_start s))

pub returns-then-total-gt4294967295 : goal.returns-then-total-gt4294967295
returns-then-total-gt4294967295 c =
    let e = comes c.loop-entry.entry-iterator c.next.new.self c.loop-entry.invariant.0 c.in-Some.entry c.in-Some.ensures.steps in
    let here : c.loop-entry.total + c.u32_at.result + sum (durations_of (edits_in (drop 12 (chunks_exact_rest c.loop-entry.entry-iterator)))) ≡ edit_total c.args.elst.now = total_next _ _ _ e.long (c.u32_at.ensures ∙ entry_u32 e 0 (lit≤ tt)) c.loop-entry.invariant.2 in
    sym (total_over _ (omega (arith, here, c.if-total-gt4294967295.true)))

pub loop-entry-preserved : goal.loop-entry-preserved
loop-entry-preserved c =
    let e = comes c.loop-entry.entry-iterator c.next.new.self c.loop-entry.invariant.0 c.in-Some.entry c.in-Some.ensures.steps in
    let here : c.loop-entry.total + c.u32_at.result + sum (durations_of (edits_in (drop 12 (chunks_exact_rest c.loop-entry.entry-iterator)))) ≡ edit_total c.args.elst.now = total_next _ _ _ e.long (c.u32_at.ensures ∙ entry_u32 e 0 (lit≤ tt)) c.loop-entry.invariant.2 in
    rw e.rest (e.size, omega (arith, c.if-total-gt4294967295.false), here)

pub returns : goal.returns
returns c = let end = none_comes c.loop-entry.entry-iterator c.next.new.self c.loop-entry.invariant.0 c.in-None.ensures.steps in sym (ap total_of (sym (total_end _ _ _ end c.loop-entry.invariant.2)) ∙ total_sum _ c.loop-entry.invariant.1)
