-- `quay_rules::has_zero_duration` meets its contract: a 0 is among the durations of the runs not yet read exactly if it is among all.
-- Assumes nothing.
use lib.Dec.{lit≤}
use mathlib.Core.Path.{sym, ap, ◌∙◌}
use Rattle.bigendian.proofs.Entries.{begins, comes, none_comes, entry_u32}
use Rattle.lists.specs.Lists.{expand}
use Rattle.runs.specs.Runs.{runs_in}
use Rattle.runs.proofs.Turns.{spread_in}
use Rattle.quay_rules.specs.Rules.{has_zero}
use Rattle.quay_rules.proofs.Zeros.{zero_here, zero_on, zero_end}
use Rattle.quay_rules.proofs.has_zero_duration.Goals as goal

pub loop-entry-init : goal.loop-entry-init
loop-entry-init c = let begin = begins c.into_iter-entry-iterator.ensures.into_iter_gives c.chunks_exact-entry-items.ensures.rest c.chunks_exact-entry-items.ensures.size c.after.ensures in (begin.size, ap (λ l. has_zero (expand (runs_in l))) begin.rest ∙ ap has_zero (spread_in c.args.stts.now))

pub returns-then-is_zero_run : goal.returns-then-is_zero_run
returns-then-is_zero_run c = let e = comes c.loop-entry.entry-iterator c.next.new.self c.loop-entry.invariant.0 c.in-Some.entry c.in-Some.ensures.steps in sym (zero_here _ e.long (c.u32_at.ensures ∙ entry_u32 e 0 (lit≤ tt)) (c.u32_at-in-loop-entry.ensures ∙ entry_u32 e 4 (lit≤ tt)) c.is_zero_run.ensures c.if-is_zero_run.true) ∙ c.loop-entry.invariant.1

pub loop-entry-preserved : goal.loop-entry-preserved
loop-entry-preserved c = let e = comes c.loop-entry.entry-iterator c.next.new.self c.loop-entry.invariant.0 c.in-Some.entry c.in-Some.ensures.steps in let l = c.loop-entry in (e.size, rw e.rest (sym (zero_on _ e.long (c.u32_at.ensures ∙ entry_u32 e 0 (lit≤ tt)) (c.u32_at-in-loop-entry.ensures ∙ entry_u32 e 4 (lit≤ tt)) c.is_zero_run.ensures c.if-is_zero_run.false) ∙ l.invariant.1))

pub returns : goal.returns
returns c = let end = none_comes c.loop-entry.entry-iterator c.next.new.self c.loop-entry.invariant.0 c.in-None.ensures.steps in sym (zero_end _ end) ∙ c.loop-entry.invariant.1
