-- `words::syncs_agree` meets its contract: whether the numbers not yet read rise after the last one read decides whether all do.
-- Assumes nothing.
use lib.Dec.{lit≤}
use Prim.Native.Nat.{◌≤◌, ◌<◌}
use mathlib.Core.Path.{sym, ap, ◌∙◌}
use native.Mathlib.Omega.{arith}
use Rattle.bigendian.proofs.Entries.{begins, comes, none_comes, entry_u32}
use Rattle.words.specs.Words.{words_in, strictly_rising}
use Rattle.words.proofs.Syncs.{agree_in, rising_falls, rising_on, rising_end}
use Rattle.words.proofs.syncs_agree.Goals as goal

pub loop-entry-init : goal.loop-entry-init
loop-entry-init c = let begin = begins c.into_iter-entry-iterator.ensures.into_iter_gives c.chunks_exact-entry-items.ensures.rest c.chunks_exact-entry-items.ensures.size c.after.ensures in let a = c.args in (begin.size, ap (λ l. strictly_rising a.samples 0 (words_in l)) begin.rest ∙ sym (agree_in a.stss.now a.samples))

pub returns-then-number-last : goal.returns-then-number-last
returns-then-number-last c =
    let e = comes c.loop-entry.entry-iterator c.next.new.self c.loop-entry.invariant.0 c.in-Some.entry c.in-Some.ensures.steps in
    let u = c.u32_at-number in
    let l = c.loop-entry in
    let h : u.result ≤ l.last = omega arith in
    sym (rising_falls _ _ (u.ensures ∙ entry_u32 e 0 (lit≤ tt)) e.long _ _ h) ∙ l.invariant.1

pub loop-entry-preserved : goal.loop-entry-preserved
loop-entry-preserved c =
    let e = comes c.loop-entry.entry-iterator c.next.new.self c.loop-entry.invariant.0 c.in-Some.entry c.in-Some.ensures.steps in
    let u = c.u32_at-number in
    let l = c.loop-entry in
    let h : l.last < u.result = omega (arith, c.if-number-last.false) in
    (e.size, rw e.rest (sym (rising_on _ _ (u.ensures ∙ entry_u32 e 0 (lit≤ tt)) e.long _ _ h) ∙ l.invariant.1))

pub returns : goal.returns
returns c = let end = none_comes c.loop-entry.entry-iterator c.next.new.self c.loop-entry.invariant.0 c.in-None.ensures.steps in sym (rising_end _ _ _ end) ∙ c.loop-entry.invariant.1
