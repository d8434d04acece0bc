-- `chunk_ends::listed_within` meets its contract: what the chunks ahead of the cursor say is what all say; there are below 2 ^ 63 of them.
-- Assumes nothing.
use Prim.Native.Nat.{ℕ, ◌*◌, ◌≤◌}
use mathlib.Core.Path.{◌≡◌, sym, ap, ◌∙◌}
use mathlib.Core.Bool.{not}
use mathlib.Core.List.{[]}
use native.Mathlib.Omega.{arith}
use lib.ListN.{drop, length-take}
use lib.Seq.{drop-drop, length-take-le}
use Rattle.bigendian.proofs.Parts.{rest as part-rest}
use Rattle.words.specs.Words.{numbers_in, words_in, width_of}
use Rattle.chunks.proofs.Turns.{few_chunks}
use Rattle.chunk_ends.proofs.Ends.{ending_start, start_length, ended, ends_past, ending_next, ending_length, one_asked}
use Rattle.chunk_ends.proofs.RunEnds.{at_front, first_part, later_part}
use Rattle.chunk_ends.proofs.listed_within.Goals as goal

pub loop-c-init : goal.loop-c-init
loop-c-init c =
    let i = c.start_cursor.ensures in
    let a = c.args in (
      ending_start a.limit a.stsc.now a.chunks _ _ i c.ready-c.ensures.0,
      omega (arith, start_length a.limit a.stsc.now a.chunks [] [] i c.ready-c.ensures.0, few_chunks a.stsc.now a.chunks c.requires (omega (arith, c.ranges.chunks)) (λ j. omega (arith, c.type_inv.stsc j))),
    )

pub slice_bounds-sum_words-end : goal.slice_bounds-sum_words-end
slice_bounds-sum_words-end c = sym (length-take-le c.min-n.result c.loop-c.z.now (omega (arith, c.min-n.ensures)))

pub sum_words-bytes-requires : goal.sum_words-bytes-requires
sum_words-bytes-requires c = omega (arith, length-take c.min-n.result c.loop-c.z.now, c.min-n.ensures)

pub returns-then-passes : goal.returns-then-passes
returns-then-passes c =
    let a = c.args in
    let cs = numbers_in (width_of a.long) a.offsets.now in
    let l = c.loop-c in
    sym (ends_past l.invariant.0 1 (omega (arith, c.loop-c-test.true))
    (one_asked a.limit l.c.per (drop l.index cs) (words_in l.z.now) (c.number_in.ensures ∙ at_front l.index cs) (c.sum_words-bytes.ensures.0 ∙ first_part l.z.now l.c.per c.min-n.ensures) c.passes.ensures) (ap not c.if-passes.true))

pub overflow_add-index : goal.overflow_add-index
overflow_add-index c = omega (arith, c.loop-c.invariant.1)

pub loop-c-smaller : goal.loop-c-smaller
loop-c-smaller c = omega (arith, ending_length c.loop-c.invariant.0 1 (omega (arith, c.loop-c-test.true)) c.pass.ensures c.ready-c-in-loop-c.ensures.0)

pub loop-c-preserved : goal.loop-c-preserved
loop-c-preserved c =
    let a = c.args in
    let cs = numbers_in (width_of a.long) a.offsets.now in
    let l = c.loop-c in
    let h : 1 ≤ l.c.remaining = omega (arith, c.loop-c-test.true) in
    let e : 1 * l.c.per ≡ l.c.per = omega arith in (
      ending_next l.invariant.0 1 h c.pass.ensures c.ready-c-in-loop-c.ensures.0
          (one_asked a.limit l.c.per (drop l.index cs) (words_in l.z.now) (c.number_in.ensures ∙ at_front l.index cs) (c.sum_words-bytes.ensures.0 ∙ first_part l.z.now l.c.per c.min-n.ensures) c.passes.ensures) (ap not c.if-passes.false)
          (sym (drop-drop 1 l.index cs))
          (ap words_in (part-rest c.min-n.result l.z.now) ∙ later_part l.z.now l.c.per c.min-n.ensures ∙ ap (λ (k : ℕ). drop k (words_in l.z.now)) (sym e)),
      omega (arith, ending_length l.invariant.0 1 h c.pass.ensures c.ready-c-in-loop-c.ensures.0, l.invariant.1),
    )

pub returns : goal.returns
returns c = sym (ended c.loop-c.invariant.0 c.loop-c-test.false)
