-- `references::reference_at` meets its contract; the loop's invariant: the reference that is looked for is the one at `skip` in the rest.
-- Assumes nothing.
use native.Mathlib.Omega.{arith}
use mathlib.Core.Path.{sym, ap, ◌∙◌}
use mathlib.Core.List.{[]}
use lib.ListN.{get_or, length-drop}
use lib.Seq.{length-take-le}
use Rattle.bigendian.proofs.Parts.{rest}
use Rattle.atoms.specs.Pieces.{pieces}
use Rattle.leaves.specs.Leaves.{size_entry}
use Rattle.references.proofs.Cut.{at_none, at_here, at_past}
use Rattle.references.proofs.reference_at.Goals as goal

pub after-part-requires : goal.after-part-requires
after-part-requires c = tt

pub loop-t-init : goal.loop-t-init
loop-t-init c = ap (λ t. get_or (pieces (size_entry 12) t) c.args.i []) c.after-part.ensures

pub entry_size-z-requires : goal.entry_size-z-requires
entry_size-z-requires c = tt

pub returns-then-z-eq0 : goal.returns-then-z-eq0
returns-then-z-eq0 c =
    let l = c.loop-t in
    sym (at_none (size_entry 12) l.t.now c.entry_size-z.ensures.value l.skip c.if-z-eq0.true) ∙ l.invariant

pub slice_bounds-result-end-then-skip-eq0 : goal.slice_bounds-result-end-then-skip-eq0
slice_bounds-result-end-then-skip-eq0 c = sym (length-take-le _ _ c.entry_size-z.ensures.upper_bound)

pub returns-then-skip-eq0 : goal.returns-then-skip-eq0
returns-then-skip-eq0 c =
    let l = c.loop-t in
    let d = c.entry_size-z in
    sym (at_here (size_entry 12) l.t.now d.ensures.value l.skip c.if-z-eq0.false d.ensures.upper_bound c.if-skip-eq0.true) ∙ l.invariant

pub loop-t-smaller : goal.loop-t-smaller
loop-t-smaller c =
    let t = c.loop-t.t.now in
    let z = c.entry_size-z.result in
    rw (rest z t) (omega (arith, length-drop z t))

pub loop-t-preserved : goal.loop-t-preserved
loop-t-preserved c =
    let l = c.loop-t in
    let d = c.entry_size-z in
    let t = l.t.now in
    rw (rest d.result t)
    (sym (at_past (size_entry 12) t d.ensures.value l.skip c.if-z-eq0.false d.ensures.upper_bound c.if-skip-eq0.false) ∙ l.invariant)
