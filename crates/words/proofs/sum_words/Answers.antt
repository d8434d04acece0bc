-- `words::sum_words` meets its contract: one or two numbers are read where they stand; else the sum so far and the numbers not yet read add up to all,
-- and each number read is below 2 ^ 32.
-- Assumes nothing.
use Rattle.std.specs.Slice.Iter.{chunks_exact_rest}
use lib.Dec.{lit≤}
use mathlib.Core.Path.{refl, sym, ap, ◌∙◌}
use native.Mathlib.Omega.{arith}
use lib.ListN.{length-drop}
use Rattle.bigendian.proofs.Entries.{begins, comes, none_comes, entry_u32}
use Rattle.lists.specs.Lists.{sum}
use Rattle.words.proofs.Turns.{words_none, words_next, one_word, two_words}
use Rattle.words.proofs.sum_words.Goals as goal

pub returns-then-part-eq4 : goal.returns-then-part-eq4
returns-then-part-eq4 c =
    let t = c.args.part.now in
    let h = c.if-part-eq4.true in
    (c.u32_at.ensures ∙ sym (one_word t h), omega (arith, h))

pub returns-then-part-eq8 : goal.returns-then-part-eq8
returns-then-part-eq8 c =
    let t = c.args.part.now in
    let h = c.if-part-eq8.true in
    (cc (two_words t h, c.u32_at-then-part-eq8.ensures, c.u32_at-then-part-eq8-2.ensures), omega (arith, h))

pub loop-entry-init : goal.loop-entry-init
loop-entry-init c = let begin = begins c.into_iter-entry-iterator.ensures.into_iter_gives c.chunks_exact-entry-items.ensures.rest c.chunks_exact-entry-items.ensures.size refl in rw begin.rest (begin.size, omega arith, omega arith)

pub overflow_add-total : goal.overflow_add-total
overflow_add-total c = omega (arith, c.requires)

pub loop-entry-preserved : goal.loop-entry-preserved
loop-entry-preserved c =
    let e = comes c.loop-entry.entry-iterator c.next.new.self c.loop-entry.invariant.0 c.in-Some.entry c.in-Some.ensures.steps in
    let l = c.loop-entry in
    let h = e.long in
    let s = (chunks_exact_rest c.loop-entry.entry-iterator) in
    rw e.rest (e.size, omega (arith, l.invariant.1, ap sum (words_next s h), (c.u32_at-in-loop-entry.ensures ∙ entry_u32 e 0 (lit≤ tt))), omega (arith, l.invariant.2, length-drop 4 s, h))

pub returns : goal.returns
returns c = let end = none_comes c.loop-entry.entry-iterator c.next.new.self c.loop-entry.invariant.0 c.in-None.ensures.steps in let l = c.loop-entry in (omega (arith, l.invariant.1, ap sum (words_none _ end)), omega (arith, l.invariant.2))
