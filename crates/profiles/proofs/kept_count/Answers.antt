-- `profiles::kept_count` meets its contract; the loop's invariant: the records counted and those of the rest are all of them.
-- Assumes nothing.
use borrow.Author.Rules.{rules}
use Prim.Native.Nat.{◌+◌, ◌≤◌}
use mathlib.Core.Path.{ap}
use native.Mathlib.Omega.{arith}
use lib.ListN.{length, length-drop}
use Rattle.bigendian.proofs.Parts.{rest as part-rest}
use Rattle.profiles.proofs.Kept.{kept-in, kept_none, kept_here, kept_next}
use Rattle.profiles.proofs.kept_count.Goals.{then-u32_at-ne0, else-u32_at-ne0}
use Rattle.profiles.proofs.kept_count.Goals as goal

pub loop-t-init : goal.loop-t-init
loop-t-init c =
    let p = c.args.profile.now in
    rw c.after-t.ensures (omega (arith, length-drop 16 p), omega (arith, ap length (kept-in p)))

pub overflow_add-n : goal.overflow_add-n
overflow_add-n c =
    let l = c.loop-t in
    let g : l.n + 1 ≤ length c.args.profile.now = omega (arith, l.invariant.0, c.loop-t-test.true) in
    search rules

pub loop-t-smaller : goal.loop-t-smaller
loop-t-smaller c = let l = c.loop-t.t.now in rw (part-rest 16 l) (omega (arith, length-drop 16 l, c.loop-t-test.true))

pub loop-t-preserved : goal.loop-t-preserved
loop-t-preserved c =
    let l = c.loop-t in
    let s = l.t.now in
    let u = c.u32_at.ensures in
    let h = c.loop-t-test.true in
    rw (part-rest 16 s)
    (elim c.if-u32_at-ne0.branch [
      | then-u32_at-ne0 w ↦ let q = ap length (kept_here s _ h u w.if-u32_at-ne0.true) in rw w.n-is (omega (arith, l.invariant.0, length-drop 16 s), omega (arith, l.invariant.1, q))
      | else-u32_at-ne0 w ↦ let q = ap length (kept_next s _ h u w.if-u32_at-ne0.false) in rw w.n-is (omega (arith, l.invariant.0, length-drop 16 s), omega (arith, l.invariant.1, q))
    ])

pub returns : goal.returns
returns c = let l = c.loop-t in omega (arith, l.invariant.1, ap length (kept_none l.t.now c.loop-t-test.false))
