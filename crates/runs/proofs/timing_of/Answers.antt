-- `runs::timing_of` meets its contract: the search for the index stands before what the runs not yet read expand to.
-- Assumes nothing.
use Rattle.std.specs.Slice.Iter.{chunks_exact_rest}
use lib.Dec.{lit≤}
use mathlib.Core.Path.{sym, ◌∙◌}
use native.Mathlib.Omega.{arith}
use native.Mathlib.Nat.{le_refl}
use lib.ListN.{drop}
use Rattle.bigendian.proofs.Entries.{begins, comes, none_comes, entry_u32}
use Rattle.lists.specs.Lists.{expand}
use Rattle.lists.proofs.Laws.{Next, search_start, search_past, search_in, search_end, search_fits}
use Rattle.runs.specs.Runs.{runs_in, per_sample, timing_of}
use Rattle.runs.proofs.Turns.{spread_in, spread_none, spread_next}
use Rattle.runs.proofs.timing_of.Goals as goal

pub loop-entry-init : goal.loop-entry-init
loop-entry-init c = let begin = begins c.into_iter-entry-iterator.ensures.into_iter_gives c.chunks_exact-entry-items.ensures.rest c.chunks_exact-entry-items.ensures.size c.after.ensures in let a = c.args in (begin.size, rw (begin.rest, spread_in a.stts.now) (search_start _ _ _))

pub overflow_mul-result : goal.overflow_mul-result
overflow_mul-result c =
    let e = comes c.loop-entry.entry-iterator c.next.new.self c.loop-entry.invariant.0 c.in-Some.entry c.in-Some.ensures.steps in
    let here : Next 4294967295 (per_sample c.args.stts.now) c.u32_at-count.result c.u32_at-each.result (expand (runs_in (drop 8 (chunks_exact_rest c.loop-entry.entry-iterator))))
    c.args.index c.loop-entry.skip c.loop-entry.start = record {
      search_at = rw (spread_next (chunks_exact_rest c.loop-entry.entry-iterator) e.long (c.u32_at-count.ensures ∙ entry_u32 e 0 (lit≤ tt)) (c.u32_at-each.ensures ∙ entry_u32 e 4 (lit≤ tt))) at c.loop-entry.invariant.1;
      low = omega arith;
    } in
    let h = search_fits (here) _ (le_refl _) in omega arith

pub overflow_add-result : goal.overflow_add-result
overflow_add-result c =
    let e = comes c.loop-entry.entry-iterator c.next.new.self c.loop-entry.invariant.0 c.in-Some.entry c.in-Some.ensures.steps in
    let here : Next 4294967295 (per_sample c.args.stts.now) c.u32_at-count.result c.u32_at-each.result (expand (runs_in (drop 8 (chunks_exact_rest c.loop-entry.entry-iterator))))
    c.args.index c.loop-entry.skip c.loop-entry.start = record {
      search_at = rw (spread_next (chunks_exact_rest c.loop-entry.entry-iterator) e.long (c.u32_at-count.ensures ∙ entry_u32 e 0 (lit≤ tt)) (c.u32_at-each.ensures ∙ entry_u32 e 4 (lit≤ tt))) at c.loop-entry.invariant.1;
      low = omega arith;
    } in
    let h = search_fits (here) _ (le_refl _) in omega arith

pub returns-then-skip-count : goal.returns-then-skip-count
unfolding timing_of
returns-then-skip-count c =
    let e = comes c.loop-entry.entry-iterator c.next.new.self c.loop-entry.invariant.0 c.in-Some.entry c.in-Some.ensures.steps in
    let here : Next 4294967295 (per_sample c.args.stts.now) c.u32_at-count.result c.u32_at-each.result (expand (runs_in (drop 8 (chunks_exact_rest c.loop-entry.entry-iterator))))
    c.args.index c.loop-entry.skip c.loop-entry.start = record {
      search_at = rw (spread_next (chunks_exact_rest c.loop-entry.entry-iterator) e.long (c.u32_at-count.ensures ∙ entry_u32 e 0 (lit≤ tt)) (c.u32_at-each.ensures ∙ entry_u32 e 4 (lit≤ tt))) at c.loop-entry.invariant.1;
      low = omega arith;
    } in
    let f = search_in (here) c.if-skip-count.true in λ i. record { start = sym f.0 i; duration = sym f.1 i }

pub overflow_mul-start : goal.overflow_mul-start
overflow_mul-start c =
    let e = comes c.loop-entry.entry-iterator c.next.new.self c.loop-entry.invariant.0 c.in-Some.entry c.in-Some.ensures.steps in
    let here : Next 4294967295 (per_sample c.args.stts.now) c.u32_at-count.result c.u32_at-each.result (expand (runs_in (drop 8 (chunks_exact_rest c.loop-entry.entry-iterator))))
    c.args.index c.loop-entry.skip c.loop-entry.start = record {
      search_at = rw (spread_next (chunks_exact_rest c.loop-entry.entry-iterator) e.long (c.u32_at-count.ensures ∙ entry_u32 e 0 (lit≤ tt)) (c.u32_at-each.ensures ∙ entry_u32 e 4 (lit≤ tt))) at c.loop-entry.invariant.1;
      low = omega arith;
    } in
    let h = search_fits (here) _ c.if-skip-count.false in omega arith

pub overflow_add-start : goal.overflow_add-start
overflow_add-start c =
    let e = comes c.loop-entry.entry-iterator c.next.new.self c.loop-entry.invariant.0 c.in-Some.entry c.in-Some.ensures.steps in
    let here : Next 4294967295 (per_sample c.args.stts.now) c.u32_at-count.result c.u32_at-each.result (expand (runs_in (drop 8 (chunks_exact_rest c.loop-entry.entry-iterator))))
    c.args.index c.loop-entry.skip c.loop-entry.start = record {
      search_at = rw (spread_next (chunks_exact_rest c.loop-entry.entry-iterator) e.long (c.u32_at-count.ensures ∙ entry_u32 e 0 (lit≤ tt)) (c.u32_at-each.ensures ∙ entry_u32 e 4 (lit≤ tt))) at c.loop-entry.invariant.1;
      low = omega arith;
    } in
    let h = search_fits (here) _ c.if-skip-count.false in omega arith

pub loop-entry-preserved : goal.loop-entry-preserved
loop-entry-preserved c =
    let e = comes c.loop-entry.entry-iterator c.next.new.self c.loop-entry.invariant.0 c.in-Some.entry c.in-Some.ensures.steps in
    let here : Next 4294967295 (per_sample c.args.stts.now) c.u32_at-count.result c.u32_at-each.result (expand (runs_in (drop 8 (chunks_exact_rest c.loop-entry.entry-iterator))))
    c.args.index c.loop-entry.skip c.loop-entry.start = record {
      search_at = rw (spread_next (chunks_exact_rest c.loop-entry.entry-iterator) e.long (c.u32_at-count.ensures ∙ entry_u32 e 0 (lit≤ tt)) (c.u32_at-each.ensures ∙ entry_u32 e 4 (lit≤ tt))) at c.loop-entry.invariant.1;
      low = omega arith;
    } in
    (e.size, rw e.rest (search_past (here) c.if-skip-count.false))

pub returns : goal.returns
unfolding timing_of
returns c = let end = none_comes c.loop-entry.entry-iterator c.next.new.self c.loop-entry.invariant.0 c.in-None.ensures.steps in let f = search_end (rw (spread_none _ end) at c.loop-entry.invariant.1) in λ i. record { start = sym f.0 i; duration = sym f.1 i }
