-- `words::is_sync` meets its contract: the number is listed among those not yet read exactly if it is listed.
-- Assumes nothing.
use lib.Dec.{lit≤}
use mathlib.Core.Path.{sym, ap, ◌∙◌}
use Rattle.bigendian.proofs.Entries.{begins, comes, none_comes, entry_u32}
use Rattle.words.specs.Words.{words_in, listed}
use Rattle.words.proofs.Syncs.{sync_absent, sync_in, listed_here, listed_on, listed_end}
use Rattle.words.proofs.is_sync.Goals as goal

pub returns-then-stss-eq0 : goal.returns-then-stss-eq0
returns-then-stss-eq0 c = sym (sync_absent _ _ c.if-stss-eq0.true)

pub loop-entry-init : goal.loop-entry-init
loop-entry-init c = let begin = begins c.into_iter-entry-iterator.ensures.into_iter_gives c.chunks_exact-entry-items.ensures.rest c.chunks_exact-entry-items.ensures.size c.after.ensures in let a = c.args in (begin.size, ap (λ l. listed a.number (words_in l)) begin.rest ∙ sym (sync_in a.stss.now a.number c.if-stss-eq0.false))

pub returns-then-u32_at-number : goal.returns-then-u32_at-number
returns-then-u32_at-number c = let e = comes c.loop-entry.entry-iterator c.next.new.self c.loop-entry.invariant.0 c.in-Some.entry c.in-Some.ensures.steps in sym (listed_here _ _ (c.u32_at.ensures ∙ entry_u32 e 0 (lit≤ tt)) e.long _ c.if-u32_at-number.true) ∙ c.loop-entry.invariant.1

pub loop-entry-preserved : goal.loop-entry-preserved
loop-entry-preserved c =
    let e = comes c.loop-entry.entry-iterator c.next.new.self c.loop-entry.invariant.0 c.in-Some.entry c.in-Some.ensures.steps in
    let l = c.loop-entry in
    (e.size, rw e.rest (sym (listed_on _ _ (c.u32_at.ensures ∙ entry_u32 e 0 (lit≤ tt)) e.long _ c.if-u32_at-number.false) ∙ l.invariant.1))

pub returns : goal.returns
returns c = let end = none_comes c.loop-entry.entry-iterator c.next.new.self c.loop-entry.invariant.0 c.in-None.ensures.steps in sym (listed_end _ _ end) ∙ c.loop-entry.invariant.1
