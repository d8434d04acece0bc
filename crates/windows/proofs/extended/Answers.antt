-- `windows::extended` meets its contract: each sample that is taken in leaves the window the start of the shortest run, until it reaches or no sample is left.
-- Assumes nothing.
use Prim.Native.Nat.{◌-◌}
use mathlib.Core.Path.{refl, ap}
use native.Mathlib.Omega.{arith}
use Rattle.windows.specs.declared.Window.{Window}
use Rattle.windows.proofs.Sliding.{slides_grown, before_at, before_none}
use Rattle.windows.proofs.extended.Goals as goal

pub loop-r-init : goal.loop-r-init
loop-r-init c = (c.requires.0, refl)

pub returns-then-head-eq0 : goal.returns-then-head-eq0
returns-then-head-eq0 c =
    let l = c.loop-r in
    record { slides = l.invariant.0; from = l.invariant.1; all = λ h. before_none _ _ _ l.invariant.0.head c.if-head-eq0.true }

pub grown-r-requires : goal.grown-r-requires
grown-r-requires c = (omega (arith, c.loop-r.invariant.0.few, c.requires.1.few), omega (arith, c.loop-r-test.true, c.ranges.scale), omega (arith, c.loop-r.invariant.0.few, c.loop-r.invariant.0.low, c.requires.1.few))

pub loop-r-smaller : goal.loop-r-smaller
loop-r-smaller c =
    let k = before_at c.args.stts.now c.loop-r.r.stop c.loop-r.r.head c.loop-r.invariant.0.head (omega (arith, c.if-head-eq0.false)) in
    let n = ap (λ (x : Window). x.stop) c.grown-r.ensures in
    omega (arith, k.2)

pub loop-r-preserved : goal.loop-r-preserved
loop-r-preserved c =
    let z = c.size_of in
    let k = slides_grown _ _ _ c.requires.1.some_scale _ c.loop-r.invariant.0 _ c.loop-r-test.true (omega (arith, c.if-head-eq0.false)) z.ensures (omega arith) in
    rw c.grown-r.ensures (k, c.loop-r.invariant.1)

pub returns : goal.returns
returns c = let l = c.loop-r in record { slides = l.invariant.0; from = l.invariant.1; all = λ h. absurd (omega (arith, c.loop-r-test.false)) }
