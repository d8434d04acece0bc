-- `compact_entries::put_runs` meets its contract: at each turn the entry in hand and the rest of the part give what is still to be written. Each
-- count is below 2^32 and takes 8 bytes, so the sum stays below 2^29 times the bytes read.
-- Assumes nothing.
use native.Mathlib.Omega.{arith}
use mathlib.Core.Path.{refl, sym, ap, ◌∙◌}
use mathlib.Core.List.{[]}
use lib.ListN.{length, take, drop, length-drop}
use lib.Seq.{length-sets, length-take-le}
use Rattle.bigendian.proofs.Parts.{rest}
use Rattle.bigendian.specs.BigEndian.{u32_at}
use Rattle.compact_entries.specs.Entries.{with_count}
use Rattle.byte_writing.proofs.Writing.{storing_start, storing_end, storing_same, storing_room, storing_next}
use Rattle.compact_entries.proofs.Merging.{runs_rest, runs_none, runs_first, rest_end, rest_same, rest_other}
use Rattle.compact_entries.proofs.put_runs.Goals.{then-u32_at, else-u32_at}
use Rattle.compact_entries.proofs.put_runs.Goals as goal

pub returns-then-part-lt8 : goal.returns-then-part-lt8
returns-then-part-lt8 c =
    let a = c.args in
    rw (runs_none a.part.now c.if-part-lt8.true) (omega arith, refl)

pub slice_bounds-e-end : goal.slice_bounds-e-end
slice_bounds-e-end c = sym (length-take-le 8 c.args.part.now c.if-part-lt8.false)

pub u32_at-count-requires : goal.u32_at-count-requires
u32_at-count-requires c = tt

pub loop-t-init : goal.loop-t-init
loop-t-init c =
    let a = c.args in
    let p = a.part.now in
    let h = c.if-part-lt8.false in
    rw (rest 8 p)
    (storing_same (storing_start a.out.now a.at _ c.requires.1) _ (runs_first p _ h c.u32_at-count.ensures), omega (arith, length-drop 8 p, h))

pub slice_bounds-x-end : goal.slice_bounds-x-end
slice_bounds-x-end c = sym (length-take-le 8 c.loop-t.t.now c.loop-t-test.true)

pub u32_at-requires : goal.u32_at-requires
u32_at-requires c = tt

pub u32_at-requires-in-loop-t : goal.u32_at-requires-in-loop-t
u32_at-requires-in-loop-t c = tt

pub u32_at-requires-then-u32_at : goal.u32_at-requires-then-u32_at
u32_at-requires-then-u32_at c = tt

pub overflow_add-count : goal.overflow_add-count
overflow_add-count c = record { fits = omega (arith, c.loop-t.invariant.1, c.loop-t-test.true) }

pub put_run-k-requires : goal.put_run-k-requires
put_run-k-requires c =
    let l = c.loop-t in
    let t = l.t.now in
    storing_room l.invariant.0 (with_count l.count l.e.now) (runs_rest (u32_at (take 8 t) 0) (take 8 t) (drop 8 t)) (rest_other l.count l.e.now t c.loop-t-test.true c.u32_at.ensures c.u32_at-in-loop-t.ensures refl c.if-u32_at.false)

pub u32_at-count-requires-else-u32_at : goal.u32_at-count-requires-else-u32_at
u32_at-count-requires-else-u32_at c = tt

pub loop-t-smaller : goal.loop-t-smaller
loop-t-smaller c =
    let t = c.loop-t.t.now in
    rw (rest 8 t) (omega (arith, length-drop 8 t, c.loop-t-test.true))

pub loop-t-preserved : goal.loop-t-preserved
loop-t-preserved c =
    let l = c.loop-t in
    let t = l.t.now in
    let h = c.loop-t-test.true in
    let p = c.u32_at.ensures in
    let q = c.u32_at-in-loop-t.ensures in
    rw (rest 8 t)
    (elim c.if-u32_at.branch [
      | then-u32_at w ↦
          rw (w.out-is, w.e-is, w.count-is, w.k-is)
          (storing_same l.invariant.0 _ (rest_same l.count l.e.now t h p q w.u32_at-then-u32_at.ensures w.if-u32_at.true), omega (arith, l.invariant.1, length-drop 8 t, h))
      | else-u32_at w ↦
          rw (w.out-is, w.e-is, w.count-is, w.k-is)
          (storing_next l.invariant.0 (with_count l.count l.e.now) (runs_rest w.u32_at-count-else-u32_at.result (take 8 t) (drop 8 t)) (rest_other l.count l.e.now t h p q w.u32_at-count-else-u32_at.ensures w.if-u32_at.false) _ _ w.put_run-k.ensures.0 w.put_run-k.ensures.1, omega (arith, l.invariant.1, length-drop 8 t, h))
    ])

pub put_run-requires : goal.put_run-requires
put_run-requires c =
    let l = c.loop-t in
    storing_room l.invariant.0 (with_count l.count l.e.now) [] (rest_end l.count l.e.now l.t.now c.loop-t-test.false)

pub shape_of-out : goal.shape_of-out
shape_of-out c = ap length c.put_run.ensures.1 ∙ length-sets c.loop-t.out c.loop-t.k (with_count c.loop-t.count c.loop-t.e.now) ∙ c.loop-t.invariant.0.same

pub returns : goal.returns
returns c =
    let l = c.loop-t in
    storing_end (storing_next l.invariant.0 (with_count l.count l.e.now) [] (rest_end l.count l.e.now l.t.now c.loop-t-test.false) _ _ c.put_run.ensures.0 c.put_run.ensures.1) refl
