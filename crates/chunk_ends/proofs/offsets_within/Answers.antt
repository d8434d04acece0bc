-- `chunk_ends::offsets_within` meets its contract: what the offsets not yet read say is what all say; past the last an offset is 0 and above nothing.
-- Assumes nothing.
use Prim.Native.Nat.{◌*◌}
use mathlib.Core.Path.{sym, ap, ◌∙◌}
use native.Mathlib.Omega.{arith}
use lib.ListN.{length-drop}
use Rattle.bigendian.proofs.Parts.{rest as part-rest}
use Rattle.words.specs.Words.{numbers_in, width_of}
use Rattle.words.proofs.Turns.{width_above}
use Rattle.chunk_ends.specs.Ends.{none_above}
use Rattle.chunk_ends.proofs.RunEnds.{width_fits, past_two, past_one, two_above, two_below, one_below}
use Rattle.chunk_ends.proofs.offsets_within.Goals as goal

pub overflow_mul-step : goal.overflow_mul-step
overflow_mul-step c = record { fits = width_fits c.args.long {count = 2} (omega arith) c.width_of-step.ensures }

pub loop-t-init : goal.loop-t-init
loop-t-init c = (ap (λ k. 2 * k) c.width_of-step.ensures, ap (none_above c.args.most) c.first_numbers-these.ensures)

pub returns-then-most-max : goal.returns-then-most-max
returns-then-most-max c =
    let a = c.args in
    sym (two_above a.most (numbers_in (width_of a.long) c.loop-t.t.now) c.number_in.ensures c.number_in-in-loop-t.ensures (rw (← c.max.ensures) c.if-most-max.true)) ∙ c.loop-t.invariant.1

pub loop-t-smaller : goal.loop-t-smaller
loop-t-smaller c =
    let l = c.loop-t.t.now in
    rw (part-rest _ l) (omega (arith, length-drop (2 * c.width_of-step.result) l, c.loop-t-test.true, c.loop-t.invariant.0, width_above c.args.long))

pub loop-t-preserved : goal.loop-t-preserved
loop-t-preserved c =
    let a = c.args in
    let l = c.loop-t.t.now in
    (c.loop-t.invariant.0, rw (part-rest _ l) (ap (none_above a.most) (past_two a.long l c.loop-t.invariant.0) ∙ two_below a.most (numbers_in (width_of a.long) l) c.number_in.ensures c.number_in-in-loop-t.ensures (rw (← c.max.ensures) c.if-most-max.false) ∙ c.loop-t.invariant.1))

pub returns : goal.returns
returns c =
    let l = c.loop-t in
    let a = c.args in
    one_below a.most (numbers_in (width_of a.long) l.t.now) c.number_in-2.ensures (past_one a.long l.t.now l.invariant.0 c.loop-t-test.false) ∙ l.invariant.1
