-- `quay_rules::has_long_group` meets its contract: what the numbers not yet read say after the last one read is what all say.
-- Assumes nothing.
use lib.Dec.{lit≤}
use Prim.Native.Nat.{ℕ}
use mathlib.Core.List.{List}
use mathlib.Core.Path.{refl, ap, sym, ◌∙◌}
use Rattle.bigendian.proofs.Entries.{begins, comes, none_comes, entry_u32}
use Rattle.words.specs.Words.{words_in}
use Rattle.quay_rules.specs.Computed.{long_group}
use Rattle.quay_rules.proofs.Turns.{group_long, group_on, group_end}
use Rattle.quay_rules.proofs.has_long_group.Goals as goal

pub loop-entry-init : goal.loop-entry-init
loop-entry-init c = let begin = begins c.into_iter-entry-iterator.ensures.into_iter_gives c.chunks_exact-entry-items.ensures.rest c.chunks_exact-entry-items.ensures.size refl in (begin.size, ap (λ (l : List ℕ). long_group 250 c.args.samples 1 (words_in l)) begin.rest)

pub returns-then-span-gt-MOST_OF_A_GROUP : goal.returns-then-span-gt-MOST_OF_A_GROUP
returns-then-span-gt-MOST_OF_A_GROUP c = let e = comes c.loop-entry.entry-iterator c.next.new.self c.loop-entry.invariant.0 c.in-Some.entry c.in-Some.ensures.steps in let l = c.loop-entry in sym (group_long _ _ (c.u32_at-number.ensures ∙ entry_u32 e 0 (lit≤ tt)) e.long _ _ _ c.span.ensures c.if-span-gt-MOST_OF_A_GROUP.true) ∙ l.invariant.1

pub loop-entry-preserved : goal.loop-entry-preserved
loop-entry-preserved c = let e = comes c.loop-entry.entry-iterator c.next.new.self c.loop-entry.invariant.0 c.in-Some.entry c.in-Some.ensures.steps in let l = c.loop-entry in (e.size, rw e.rest (sym (group_on _ _ (c.u32_at-number.ensures ∙ entry_u32 e 0 (lit≤ tt)) e.long _ _ _ c.span.ensures c.if-span-gt-MOST_OF_A_GROUP.false) ∙ l.invariant.1))

pub returns : goal.returns
returns c = let end = none_comes c.loop-entry.entry-iterator c.next.new.self c.loop-entry.invariant.0 c.in-None.ensures.steps in let l = c.loop-entry in sym (group_end _ _ _ _ end c.span-2.ensures) ∙ l.invariant.1
