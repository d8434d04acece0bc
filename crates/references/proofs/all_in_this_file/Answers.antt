-- `references::all_in_this_file` meets its contract; the loop's invariant: the descriptions of the rest decide for all of them.
-- Assumes nothing.
use native.Mathlib.Omega.{arith}
use mathlib.Core.Path.{sym, ap, ◌∙◌}
use lib.ListN.{length-drop}
use lib.Seq.{length-take-le}
use Rattle.bigendian.proofs.Parts.{rest}
use Rattle.atoms.specs.Pieces.{pieces}
use Rattle.atoms.specs.Tree.{all}
use Rattle.leaves.specs.Leaves.{size_entry}
use Rattle.references.specs.References.{names_this_file, all_in_this_file}
use Rattle.references.proofs.Cut.{all_none, all_next, all_stop}
use Rattle.references.proofs.all_in_this_file.Invariants.{Names}
use Rattle.references.proofs.all_in_this_file.Goals as goal

pub after-part-requires : goal.after-part-requires
after-part-requires c = tt

pub loop-t-init : goal.loop-t-init
unfolding all_in_this_file
loop-t-init c = ap (λ t. all (Names c.args.dref.now) (pieces (size_entry c.args.least) t)) c.after-part.ensures

pub entry_size-z-requires : goal.entry_size-z-requires
entry_size-z-requires c = tt

pub returns-then-z-eq0 : goal.returns-then-z-eq0
returns-then-z-eq0 c =
    let l = c.loop-t in
    sym (all_none (size_entry _) l.t.now c.entry_size-z.ensures.value _ c.if-z-eq0.true) ∙ l.invariant

pub slice_bounds-d-end : goal.slice_bounds-d-end
slice_bounds-d-end c = sym (length-take-le _ _ c.entry_size-z.ensures.upper_bound)

pub u16_at-requires : goal.u16_at-requires
u16_at-requires c = tt

pub names_this_file-requires : goal.names_this_file-requires
names_this_file-requires c = tt

pub returns-then-not-names_this_file : goal.returns-then-not-names_this_file
returns-then-not-names_this_file c =
    let l = c.loop-t in
    let d = c.entry_size-z in
    let n = c.names_this_file.ensures ∙ ap (names_this_file _) c.u16_at.ensures in
    sym (all_stop (size_entry _) l.t.now d.ensures.value _ c.if-z-eq0.false d.ensures.upper_bound (sym n ∙ c.if-not-names_this_file.true)) ∙ l.invariant

pub loop-t-smaller : goal.loop-t-smaller
loop-t-smaller c =
    let t = c.loop-t.t.now in
    let z = c.entry_size-z.result in
    rw (rest z t) (omega (arith, length-drop z t))

pub loop-t-preserved : goal.loop-t-preserved
loop-t-preserved c =
    let l = c.loop-t in
    let d = c.entry_size-z in
    let t = l.t.now in
    let n = c.names_this_file.ensures ∙ ap (names_this_file _) c.u16_at.ensures in
    rw (rest d.result t)
    (sym (all_next (size_entry _) t d.ensures.value _ c.if-z-eq0.false d.ensures.upper_bound (sym n ∙ c.if-not-names_this_file.false)) ∙ l.invariant)
