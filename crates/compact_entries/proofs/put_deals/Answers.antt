-- `compact_entries::put_deals` meets its contract: at each turn the last entry written and the rest of the part give what is still to be written.
-- Assumes nothing.
use native.Mathlib.Omega.{arith}
use mathlib.Core.Path.{refl, sym, ap, ◌∙◌}
use lib.ListN.{length, take, drop, length-drop}
use lib.Seq.{length-sets, length-take-le}
use Rattle.bigendian.proofs.Parts.{rest}
use Rattle.byte_writing.proofs.Writing.{storing_start, storing_end, storing_same, storing_room, storing_next, two_writes}
use Rattle.compact_entries.proofs.Merging.{deals_rest, deals_none, deals_first, deals_end, deals_same, deals_other}
use Rattle.compact_entries.proofs.put_deals.Goals.{then-not-same_deal, else-not-same_deal}
use Rattle.compact_entries.proofs.put_deals.Goals as goal

pub returns-then-part-lt12 : goal.returns-then-part-lt12
returns-then-part-lt12 c = rw (deals_none c.args.part.now c.if-part-lt12.true) (omega arith, refl)

pub slice_bounds-e-end : goal.slice_bounds-e-end
slice_bounds-e-end c = sym (length-take-le 12 c.args.part.now c.if-part-lt12.false)

pub put_bytes-k-requires : goal.put_bytes-k-requires
put_bytes-k-requires c =
    let a = c.args in
    let p = a.part.now in
    storing_room (storing_start a.out.now a.at _ c.requires) (take 12 p) (deals_rest (take 12 p) (drop 12 p)) (deals_first p c.if-part-lt12.false)

pub loop-t-init : goal.loop-t-init
loop-t-init c =
    let a = c.args in
    let p = a.part.now in
    let w = storing_next (storing_start a.out.now a.at _ c.requires) (take 12 p) (deals_rest (take 12 p) (drop 12 p)) (deals_first p c.if-part-lt12.false)
    _ _ c.put_bytes-k.ensures.0 c.put_bytes-k.ensures.1 in
    rw (rest 12 p) (storing_start _ _ _ w.room)

pub slice_bounds-x-end : goal.slice_bounds-x-end
slice_bounds-x-end c = sym (length-take-le 12 c.loop-t.t.now c.loop-t-test.true)

pub same_deal-requires : goal.same_deal-requires
same_deal-requires c = tt

pub put_bytes-k-requires-then-not-same_deal : goal.put_bytes-k-requires-then-not-same_deal
put_bytes-k-requires-then-not-same_deal c =
    let l = c.loop-t in
    let t = l.t.now in
    storing_room l.invariant (take 12 t) (deals_rest (take 12 t) (drop 12 t)) (deals_other l.e.now t c.loop-t-test.true c.same_deal.ensures c.if-not-same_deal.true)

pub loop-t-smaller : goal.loop-t-smaller
loop-t-smaller c =
    let t = c.loop-t.t.now in
    rw (rest 12 t) (omega (arith, length-drop 12 t, c.loop-t-test.true))

pub loop-t-preserved : goal.loop-t-preserved
loop-t-preserved c =
    let l = c.loop-t in
    let t = l.t.now in
    let h = c.loop-t-test.true in
    let q = c.same_deal.ensures in
    rw (rest 12 t)
    (elim c.if-not-same_deal.branch [
      | then-not-same_deal w ↦
          rw (w.out-is, w.e-is, w.k-is)
          (storing_next l.invariant (take 12 t) (deals_rest (take 12 t) (drop 12 t)) (deals_other l.e.now t h q w.if-not-same_deal.true) _ _ w.put_bytes-k-then-not-same_deal.ensures.0 w.put_bytes-k-then-not-same_deal.ensures.1)
      | else-not-same_deal w ↦ rw (w.out-is, w.e-is, w.k-is) (storing_same l.invariant _ (deals_same l.e.now t h q w.if-not-same_deal.false))
    ])

pub shape_of-out : goal.shape_of-out
shape_of-out c = c.loop-t.invariant.same ∙ ap length c.put_bytes-k.ensures.1 ∙ length-sets c.args.out.now c.args.at (take 12 c.args.part.now)

pub returns : goal.returns
returns c =
    let a = c.args in
    let p = a.part.now in
    let l = c.loop-t in
    let e = storing_end l.invariant (deals_end l.e.now l.t.now c.loop-t-test.false) in
    let f = c.put_bytes-k.ensures in
    rw (deals_first p c.if-part-lt12.false)
    (two_writes (take 12 p) (deals_rest (take 12 p) (drop 12 p)) a.out.now _ _ a.at _ _ f.0 f.1 (rw (rest 12 p) at e.0) (rw (rest 12 p) at e.1))
