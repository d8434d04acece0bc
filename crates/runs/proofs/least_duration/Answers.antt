-- `runs::least_duration` meets its contract: the least so far and that of what the rest expands to make that of all.
-- Assumes nothing.
use Rattle.std.specs.Slice.Iter.{chunks_exact_rest}
use lib.Dec.{lit≤}
use mathlib.Core.Path.{sym, ap, ◌∙◌}
use lib.ListN.{drop}
use Rattle.bigendian.proofs.Entries.{begins, comes, none_comes, entry_u32}
use Rattle.lists.specs.Lists.{expand}
use Rattle.runs.specs.Runs.{runs_in, lesser_of, least_of}
use Rattle.runs.proofs.Turns.{spread_in, spread_none, spread_next}
use Rattle.runs.proofs.Leasts.{lesser_zero, least_turn}
use Rattle.runs.proofs.least_duration.Goals as goal

pub loop-entry-init : goal.loop-entry-init
loop-entry-init c = let begin = begins c.into_iter-entry-iterator.ensures.into_iter_gives c.chunks_exact-entry-items.ensures.rest c.chunks_exact-entry-items.ensures.size c.after.ensures in let a = c.args in (begin.size, ap (λ l. least_of (expand (runs_in l))) begin.rest ∙ ap least_of (spread_in a.stts.now))

pub loop-entry-preserved : goal.loop-entry-preserved
loop-entry-preserved c =
    let e = comes c.loop-entry.entry-iterator c.next.new.self c.loop-entry.invariant.0 c.in-Some.entry c.in-Some.ensures.steps in
    let rest = expand (runs_in (drop 8 (chunks_exact_rest c.loop-entry.entry-iterator))) in (
      e.size,
      rw e.rest
          (ap (λ x. lesser_of x (least_of rest)) (c.lesser-least.ensures ∙ ap (lesser_of c.loop-entry.least) c.least_of_run.ensures)
          ∙ least_turn c.loop-entry.least c.u32_at.result c.u32_at-in-loop-entry.result rest
          ∙ ap (λ l. lesser_of c.loop-entry.least (least_of l))
          (sym (spread_next (chunks_exact_rest c.loop-entry.entry-iterator) e.long (c.u32_at.ensures ∙ entry_u32 e 0 (lit≤ tt)) (c.u32_at-in-loop-entry.ensures ∙ entry_u32 e 4 (lit≤ tt))))
          ∙ c.loop-entry.invariant.1),
    )

pub returns : goal.returns
returns c = let end = none_comes c.loop-entry.entry-iterator c.next.new.self c.loop-entry.invariant.0 c.in-None.ensures.steps in sym (lesser_zero _) ∙ ap (λ l. lesser_of c.loop-entry.least (least_of l)) (sym (spread_none _ end)) ∙ c.loop-entry.invariant.1
