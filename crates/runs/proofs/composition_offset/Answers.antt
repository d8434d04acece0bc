-- `runs::composition_offset` meets its contract: the number of the sample is the one at `ahead` of what the runs not yet read expand to; the sign is read last.
-- Assumes nothing.
use lib.Dec.{lit≤}
use mathlib.Core.Path.{refl, sym, ap, ◌∙◌}
use native.Mathlib.Omega.{arith}
use Rattle.bigendian.specs.BigEndian.{signed32}
use Rattle.bigendian.proofs.Entries.{begins, comes, none_comes, entry_u32}
use Rattle.bigendian.proofs.Halves.{kept, signed_low}
use Rattle.runs.specs.Runs.{composition_offset}
use Rattle.runs.proofs.Turns.{spread_in, at_first, at_next, at_end}
use Rattle.runs.proofs.composition_offset.Goals as goal

pub loop-entry-init : goal.loop-entry-init
loop-entry-init c = let begin = begins c.into_iter-entry-iterator.ensures.into_iter_gives c.chunks_exact-entry-items.ensures.rest c.chunks_exact-entry-items.ensures.size c.after.ensures in let a = c.args in (begin.size, rw (begin.rest, spread_in a.ctts.now) refl)

pub returns-then-ahead-count : goal.returns-then-ahead-count
unfolding composition_offset
returns-then-ahead-count c =
    let e = comes c.loop-entry.entry-iterator c.next.new.self c.loop-entry.invariant.0 c.in-Some.entry c.in-Some.ensures.steps in
    rw (kept c.i32_at.result (omega arith)) (
      c.i32_at.ensures.0
          ∙ ap signed32 (entry_u32 e 4 (lit≤ tt))
          ∙ ap signed32 (sym (at_first _ _ e.long (c.u32_at-count.ensures ∙ entry_u32 e 0 (lit≤ tt)) c.if-ahead-count.true) ∙ c.loop-entry.invariant.1),
      c.i32_at.ensures.1,
    )

pub loop-entry-preserved : goal.loop-entry-preserved
loop-entry-preserved c = let e = comes c.loop-entry.entry-iterator c.next.new.self c.loop-entry.invariant.0 c.in-Some.entry c.in-Some.ensures.steps in (e.size, rw e.rest (sym (at_next _ _ e.long (c.u32_at-count.ensures ∙ entry_u32 e 0 (lit≤ tt)) c.if-ahead-count.false) ∙ c.loop-entry.invariant.1))

pub returns : goal.returns
unfolding composition_offset
returns c = let end = none_comes c.loop-entry.entry-iterator c.next.new.self c.loop-entry.invariant.0 c.in-None.ensures.steps in (sym (signed_low 0 (omega arith)) ∙ ap signed32 (sym (at_end _ _ end) ∙ c.loop-entry.invariant.1), omega arith)
