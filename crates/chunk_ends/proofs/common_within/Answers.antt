-- `chunk_ends::common_within` meets its contract: what the chunks ahead of the cursor say is what all say, with the samples that are not yet theirs. A run has at most 2 ^ 32 chunks.
-- Assumes nothing.
use Prim.Native.Nat.{ℕ, ◌*◌}
use mathlib.Core.Path.{sym, ap, ◌∙◌}
use native.Mathlib.Omega.{arith}
use lib.ListN.{drop, replicate}
use Rattle.lists.proofs.Laws.{wide_mul}
use Rattle.words.specs.Words.{numbers_in, width_of}
use Rattle.words.proofs.Turns.{numbers_drop, width_above}
use Rattle.chunks.specs.declared.ChunkCursor.{ChunkCursor}
use Rattle.chunk_ends.proofs.Ends.{ending_start, ended, ends_past, ending_next, ending_length}
use Rattle.chunk_ends.proofs.RunEnds.{same_after, width_fits}
use Rattle.chunk_ends.proofs.common_within.Goals as goal

pub loop-c-init : goal.loop-c-init
loop-c-init c =
    let i = c.start_cursor.ensures in
    let a = c.args in (
      ending_start a.limit a.stsc.now a.chunks _ _ i c.ready-c.ensures.0,
      c.ready-c.ensures.1 (omega (arith, ap (λ (x : ChunkCursor). x.remaining) i)),
    )

pub run_within-requires : goal.run_within-requires
run_within-requires c = c.loop-c.invariant.1

pub returns-then-not-run_within : goal.returns-then-not-run_within
returns-then-not-run_within c =
    let l = c.loop-c in
    sym (ends_past l.invariant.0 l.c.remaining (omega arith) c.run_within.ensures c.if-not-run_within.true)

pub overflow_mul-count : goal.overflow_mul-count
overflow_mul-count c = record { fits = wide_mul c.loop-c.invariant.1 (omega arith) }

pub overflow_mul-count-in-loop-c : goal.overflow_mul-count-in-loop-c
overflow_mul-count-in-loop-c c = record { fits = width_fits c.args.long c.loop-c.invariant.1 c.width_of-width.ensures }

pub loop-c-smaller : goal.loop-c-smaller
loop-c-smaller c =
    let l = c.loop-c in
    omega (arith, ending_length l.invariant.0 l.c.remaining (omega arith) c.pass.ensures c.ready-c-in-loop-c.ensures.0, c.loop-c-test.true)

pub loop-c-preserved : goal.loop-c-preserved
loop-c-preserved c =
    let a = c.args in
    let l = c.loop-c in (
      ending_next l.invariant.0 l.c.remaining (omega arith) c.pass.ensures c.ready-c-in-loop-c.ensures.0 c.run_within.ensures c.if-not-run_within.false
          (ap (numbers_in (width_of a.long)) (c.after-others.ensures ∙ ap (λ (n : ℕ). drop (l.c.remaining * n) l.t.now) c.width_of-width.ensures) ∙ numbers_drop (width_of a.long) (width_above a.long) l.c.remaining l.t.now)
          (ap (λ (n : ℕ). replicate n a.each) c.saturating_sub-stock.ensures ∙ sym (same_after l.stock a.each (l.c.remaining * l.c.per))),
      c.ready-c-in-loop-c.ensures.1 (omega (arith, ap (λ (y : ChunkCursor). y.remaining) c.pass.ensures, l.invariant.1)),
    )

pub returns : goal.returns
returns c = sym (ended c.loop-c.invariant.0 c.loop-c-test.false)
