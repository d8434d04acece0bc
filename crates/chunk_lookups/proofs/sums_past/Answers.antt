-- `chunk_lookups::sums_past` meets its contract: what is added so far, with the entries still to be added, comes to the same.
-- Assumes nothing.
use Rattle.std.proofs.Common.{◌≡◌, ◌+◌, ◌-◌, take, drop, sym, refl, ◌∙◌, arith}
use Rattle.bigendian.proofs.Parts.{rest}
use Rattle.chunks.specs.Chunks.{deals_in, chunk_runs}
use Rattle.checkpoints.specs.Points.{with_runs}
use Rattle.chunk_lookups.proofs.From.{add_next, add_end}
use Rattle.chunk_lookups.proofs.sums_past.Goals as goal

pub loop-i-init : goal.loop-i-init
loop-i-init c = (omega arith, refl)

pub returns-then-s-lt-ENTRY : goal.returns-then-s-lt-ENTRY
returns-then-s-lt-ENTRY c =
    let l = c.loop-i in
    sym (add_end l.s.now _ (64 - l.i) l.r c.if-s-lt-ENTRY.true) ∙ l.invariant.1

pub u32_at-first-requires : goal.u32_at-first-requires
u32_at-first-requires c = tt

pub slice_bounds-first_of-count : goal.slice_bounds-first_of-count
slice_bounds-first_of-count c = omega arith

pub slice_bounds-first_of-start : goal.slice_bounds-first_of-start
slice_bounds-first_of-start c = omega arith

pub slice_bounds-first_of-end : goal.slice_bounds-first_of-end
slice_bounds-first_of-end c = omega arith

pub first_of-next-requires : goal.first_of-next-requires
first_of-next-requires c = tt

pub span-requires : goal.span-requires
span-requires c = tt

pub u32_at-requires : goal.u32_at-requires
u32_at-requires c = tt

pub sums_with-r-requires : goal.sums_with-r-requires
sums_with-r-requires c = omega (arith, c.span.ensures, c.first_of-next.ensures.1)

pub slice_bounds-s-count : goal.slice_bounds-s-count
slice_bounds-s-count c = omega arith

pub slice_bounds-s-start : goal.slice_bounds-s-start
slice_bounds-s-start c = omega arith

pub slice_bounds-s-end : goal.slice_bounds-s-end
slice_bounds-s-end c = omega arith

pub overflow_add-i : goal.overflow_add-i
overflow_add-i c = omega arith

pub loop-i-smaller : goal.loop-i-smaller
loop-i-smaller c = omega arith

pub loop-i-preserved : goal.loop-i-preserved
loop-i-preserved c =
    let l = c.loop-i in
    let s = l.s.now in
    let e : with_runs (take (64 - (l.i + 1)) (chunk_runs (λ e. e.per) c.args.chunks (deals_in (drop 12 s)))) c.sums_with-r.result
    ≡ with_runs (take (64 - l.i) (chunk_runs (λ e. e.per) c.args.chunks (deals_in s))) l.r =
    add_next s _ _ l.i _ _ _ _ l.r c.sums_with-r.result (omega arith) (omega arith) (rest 12 s) c.u32_at-first.ensures c.first_of-next.ensures.0 c.span.ensures
    c.u32_at.ensures c.sums_with-r.ensures
    in
    (omega arith, rw (rest 12 s) (e ∙ l.invariant.1))

pub returns : goal.returns
returns c =
    let l = c.loop-i in
    let z : 64 - l.i ≡ 0 = omega arith in
    rw z at l.invariant.1
