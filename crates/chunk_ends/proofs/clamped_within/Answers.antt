-- `chunk_ends::clamped_within` meets its contract: what the chunks not yet asked say is what all say, with the samples that are not yet theirs.
-- Assumes nothing.
use Prim.Native.Nat.{ℕ, ◌+◌, ◌-◌, ◌*◌, ◌≤◌}
use mathlib.Core.Path.{◌≡◌, sym, ap, ◌∙◌}
use native.Mathlib.Omega.{arith}
use lib.ListN.{take, drop, replicate}
use lib.Seq.{drop-drop}
use Rattle.lists.specs.Lists.{sum}
use Rattle.lists.proofs.Laws.{product_max}
use Rattle.words.specs.Words.{numbers_in, width_of}
use Rattle.chunks.specs.Chunks.{end_within}
use Rattle.chunk_ends.proofs.RunEnds.{at_front, first_over, first_within, none_remain, same_sum, same_after}
use Rattle.chunk_ends.proofs.clamped_within.Goals as goal

pub loop-i-init : goal.loop-i-init
loop-i-init c = let a = c.args in let e : a.count - 0 ≡ a.count = omega arith in ap (λ (k : ℕ). end_within a.limit (replicate k a.per) (numbers_in (width_of a.long) a.offsets.now) (replicate a.samples a.each)) e

pub overflow_mul-stock : goal.overflow_mul-stock
overflow_mul-stock c =
    let room : (c.loop-i.stock - c.span-following.result) * c.args.each ≤ 18446744065119617025 = let f = c.ranges in
    product_max _ _ (omega (arith, c.span-following.ensures, f.per)) (omega (arith, f.each)) in
    omega (arith, room)

pub returns-then-passes : goal.returns-then-passes
returns-then-passes c =
    let held : (c.loop-i.stock - c.span-following.result) * c.args.each
    ≡ sum (take c.args.per (replicate c.loop-i.stock c.args.each)) = let a = c.args in
    ap (λ n. (c.loop-i.stock - n) * a.each) c.span-following.ensures ∙ sym (same_sum c.loop-i.stock a.each a.per) in
    let a = c.args in
    let cs = numbers_in (width_of a.long) a.offsets.now in
    sym (first_over a.limit (a.count - c.loop-i.i) a.per (drop c.loop-i.i cs) (replicate c.loop-i.stock a.each) (omega (arith, c.loop-i-test.true))
    (c.number_in-base.ensures ∙ at_front c.loop-i.i cs) (held) c.passes.ensures c.if-passes.true) ∙ c.loop-i.invariant

pub loop-i-preserved : goal.loop-i-preserved
loop-i-preserved c =
    let held : (c.loop-i.stock - c.span-following.result) * c.args.each
    ≡ sum (take c.args.per (replicate c.loop-i.stock c.args.each)) = let a = c.args in
    ap (λ n. (c.loop-i.stock - n) * a.each) c.span-following.ensures ∙ sym (same_sum c.loop-i.stock a.each a.per) in
    let a = c.args in
    let cs = numbers_in (width_of a.long) a.offsets.now in
    first_within a.limit (a.count - c.loop-i.i) a.per (drop c.loop-i.i cs) (replicate c.loop-i.stock a.each) (omega (arith, c.loop-i-test.true))
    (c.number_in-base.ensures ∙ at_front c.loop-i.i cs) (held) c.passes.ensures c.if-passes.false {left = a.count - (c.loop-i.i + 1)} (omega arith) (sym (drop-drop 1 c.loop-i.i cs))
    (ap (λ n. replicate n a.each) c.span-following.ensures ∙ sym (same_after c.loop-i.stock a.each a.per)) ∙ c.loop-i.invariant

pub returns : goal.returns
returns c =
    let a = c.args in
    sym (none_remain a.limit (a.count - c.loop-i.i) a.per _ _ (omega (arith, c.loop-i-test.false))) ∙ c.loop-i.invariant
