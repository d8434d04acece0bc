-- `quay_rules::has_zero_size` meets its contract: a 0 is among the sizes not yet read exactly if it is among all.
-- Assumes nothing.
use lib.Dec.{lit≤}
use mathlib.Core.Path.{sym, ap, ◌∙◌}
use Rattle.bigendian.proofs.Entries.{begins, comes, none_comes, entry_u32}
use Rattle.words.specs.Words.{words_in}
use Rattle.words.proofs.Turns.{sizes_listed}
use Rattle.words.proofs.Syncs.{listed_here, listed_on, listed_end}
use Rattle.quay_rules.specs.Rules.{has_zero}
use Rattle.quay_rules.proofs.Zeros.{none_common}
use Rattle.quay_rules.proofs.has_zero_size.Goals as goal

pub returns-then-u32_at-ne0 : goal.returns-then-u32_at-ne0
returns-then-u32_at-ne0 c = sym (none_common _ c.u32_at.ensures c.if-u32_at-ne0.true)

pub loop-entry-init : goal.loop-entry-init
loop-entry-init c =
    let begin = begins c.into_iter-entry-iterator.ensures.into_iter_gives c.chunks_exact-entry-items.ensures.rest c.chunks_exact-entry-items.ensures.size c.after.ensures in
    (begin.size, ap (λ l. has_zero (words_in l)) begin.rest ∙ sym (ap has_zero (sizes_listed c.args.stsz.now c.u32_at.ensures c.if-u32_at-ne0.false)))

pub returns-then-u32_at-eq0 : goal.returns-then-u32_at-eq0
returns-then-u32_at-eq0 c = let e = comes c.loop-entry.entry-iterator c.next.new.self c.loop-entry.invariant.0 c.in-Some.entry c.in-Some.ensures.steps in sym (listed_here _ _ (c.u32_at-in-loop-entry.ensures ∙ entry_u32 e 0 (lit≤ tt)) e.long _ c.if-u32_at-eq0.true) ∙ c.loop-entry.invariant.1

pub loop-entry-preserved : goal.loop-entry-preserved
loop-entry-preserved c = let e = comes c.loop-entry.entry-iterator c.next.new.self c.loop-entry.invariant.0 c.in-Some.entry c.in-Some.ensures.steps in let l = c.loop-entry in (e.size, rw e.rest (sym (listed_on _ _ (c.u32_at-in-loop-entry.ensures ∙ entry_u32 e 0 (lit≤ tt)) e.long _ c.if-u32_at-eq0.false) ∙ l.invariant.1))

pub returns : goal.returns
returns c = let end = none_comes c.loop-entry.entry-iterator c.next.new.self c.loop-entry.invariant.0 c.in-None.ensures.steps in sym (listed_end _ _ end) ∙ c.loop-entry.invariant.1
