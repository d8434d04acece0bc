-- `checkpoints::sums_past` meets its contract: what is added so far, with the runs still to be added, comes to the same.
-- Assumes nothing.
use Rattle.std.proofs.Common.{◌≡◌, ◌+◌, ◌-◌, List, take, drop, sym, refl, ap, ◌∙◌, arith}
use Rattle.bigendian.proofs.Parts.{rest}
use Rattle.lists.specs.Lists.{Run}
use Rattle.runs.specs.Runs.{runs_in}
use Rattle.runs.proofs.Turns.{runs_none}
use Rattle.checkpoints.specs.Points.{with_runs}
use Rattle.checkpoints.proofs.Adding.{add_none, add_next}
use Rattle.checkpoints.proofs.sums_past.Goals as goal

pub loop-i-init : goal.loop-i-init
loop-i-init c = (omega arith, refl)

pub returns-then-s-lt8 : goal.returns-then-s-lt8
returns-then-s-lt8 c =
    let l = c.loop-i in
    sym (add_none (64 - l.i) l.r) ∙ ap (λ (es : List Run). with_runs (take (64 - l.i) es) l.r) (sym (runs_none l.s.now c.if-s-lt8.true)) ∙ l.invariant.1

pub u32_at-requires : goal.u32_at-requires
u32_at-requires c = tt

pub u32_at-requires-in-loop-i : goal.u32_at-requires-in-loop-i
u32_at-requires-in-loop-i c = tt

pub slice_bounds-s-count : goal.slice_bounds-s-count
slice_bounds-s-count c = omega arith

pub slice_bounds-s-start : goal.slice_bounds-s-start
slice_bounds-s-start c = omega arith

pub slice_bounds-s-end : goal.slice_bounds-s-end
slice_bounds-s-end c = omega arith

pub overflow_add-i : goal.overflow_add-i
overflow_add-i c = omega arith

pub loop-i-smaller : goal.loop-i-smaller
loop-i-smaller c = omega arith

pub loop-i-preserved : goal.loop-i-preserved
loop-i-preserved c =
    let l = c.loop-i in
    let s = l.s.now in
    let e : with_runs (take (64 - (l.i + 1)) (runs_in (drop 8 s))) c.sums_with-r.result ≡ with_runs (take (64 - l.i) (runs_in s)) l.r =
    add_next s l.i _ _ l.r c.sums_with-r.result (omega arith) (omega arith) c.u32_at.ensures c.u32_at-in-loop-i.ensures c.sums_with-r.ensures
    in
    (omega arith, rw (rest 8 s) (e ∙ l.invariant.1))

pub returns : goal.returns
returns c =
    let l = c.loop-i in
    let z : 64 - l.i ≡ 0 = omega arith in
    rw z at l.invariant.1
