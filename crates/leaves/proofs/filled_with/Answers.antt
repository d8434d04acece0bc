-- `leaves::filled_with` meets its contract; the loop's invariant: what the rest says, with the number still to come, is what the whole says.
-- Assumes nothing.
use native.Mathlib.Omega.{arith}
use mathlib.Core.Path.{sym, ◌∙◌}
use lib.ListN.{length-drop}
use Rattle.bigendian.proofs.Parts.{rest}
use Rattle.leaves.specs.Leaves.{size_entry}
use Rattle.leaves.proofs.Filled.{with_none, with_over, with_next, with_end}
use Rattle.leaves.proofs.filled_with.Goals as goal

pub entry_size-z-requires : goal.entry_size-z-requires
entry_size-z-requires c = tt

pub returns-then-z-eq0 : goal.returns-then-z-eq0
returns-then-z-eq0 c =
    let a = c.args in
    let l = c.loop-t in
    sym (with_none (size_entry a.least) l.more l.t.now _ c.entry_size-z.ensures.value c.if-z-eq0.true (omega (arith, c.loop-t-test.true))) ∙ l.invariant

pub returns-then-more-eq0 : goal.returns-then-more-eq0
returns-then-more-eq0 c =
    let a = c.args in
    let l = c.loop-t in
    let d = c.entry_size-z.ensures in
    sym (with_over (size_entry a.least) l.more l.t.now _ d.value c.if-z-eq0.false d.upper_bound c.if-more-eq0.true) ∙ l.invariant

pub loop-t-smaller : goal.loop-t-smaller
loop-t-smaller c =
    let t = c.loop-t.t.now in
    let n = c.entry_size-z.result in
    rw (rest n t) (omega (arith, length-drop n t))

pub loop-t-preserved : goal.loop-t-preserved
loop-t-preserved c =
    let a = c.args in
    let l = c.loop-t in
    let d = c.entry_size-z in
    rw (rest d.result l.t.now)
    (sym (with_next (size_entry a.least) l.more l.t.now _ d.ensures.value c.if-z-eq0.false d.ensures.upper_bound c.if-more-eq0.false) ∙ l.invariant)

pub returns : goal.returns
returns c =
    let l = c.loop-t in
    sym (with_end (size_entry c.args.least) l.more l.t.now c.loop-t-test.false) ∙ l.invariant
