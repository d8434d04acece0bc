-- `descriptions::description_count` meets its contract; the loop's invariant: the count and the descriptions of the rest make
-- those of the whole, and no description is without a byte.
-- Assumes nothing.
use mathlib.Core.Path.{ap}
use native.Mathlib.Omega.{arith}
use lib.ListN.{length, length-drop}
use Rattle.bigendian.proofs.Parts.{rest}
use Rattle.atoms.specs.Pieces.{pieces}
use Rattle.leaves.specs.Leaves.{size_entry}
use Rattle.descriptions.proofs.Cut.{count_none, count_next}
use Rattle.descriptions.proofs.description_count.Goals as goal

pub after-part-requires : goal.after-part-requires
after-part-requires c = tt

pub loop-t-init : goal.loop-t-init
loop-t-init c =
    let a = c.args in
    let e = c.after-part.ensures in
    (omega (arith, ap (λ t. length (pieces (size_entry a.least) t)) e), omega (arith, ap length e, length-drop 16 a.stsd.now))

pub entry_size-z-requires : goal.entry_size-z-requires
entry_size-z-requires c = tt

pub returns-then-z-eq0 : goal.returns-then-z-eq0
returns-then-z-eq0 c =
    let a = c.args in
    let l = c.loop-t in
    omega (arith, l.invariant.0, count_none (size_entry a.least) l.t.now c.entry_size-z.ensures.value c.if-z-eq0.true)

pub loop-t-smaller : goal.loop-t-smaller
loop-t-smaller c =
    let t = c.loop-t.t.now in
    let z = c.entry_size-z.result in
    rw (rest z t) (omega (arith, length-drop z t))

pub loop-t-preserved : goal.loop-t-preserved
loop-t-preserved c =
    let a = c.args in
    let l = c.loop-t in
    let d = c.entry_size-z in
    let t = l.t.now in
    rw (rest d.result t)
    (omega (arith, l.invariant.0, count_next (size_entry a.least) t d.ensures.value c.if-z-eq0.false d.ensures.upper_bound), omega (arith, l.invariant.1, length-drop d.result t))
