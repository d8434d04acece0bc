-- `chunk_lookups::put_checkpoints` meets its contract: the checkpoints put so far, and the sums before the next one.
-- Assumes nothing.
use Rattle.std.proofs.Common.{◌≡◌, ℕ, ◌-◌, ◌*◌, List, drop, refl, ap, ◌∙◌, arith, length-set}
use Rattle.chunks.specs.Chunks.{deals_in, chunk_runs}
use Rattle.checkpoints.specs.Points.{sums_before}
use Rattle.checkpoints.proofs.Adding.{sums_next, put_next}
use Rattle.chunk_lookups.specs.From.{deal_runs}
use Rattle.chunk_lookups.proofs.From.{runs_from}
use Rattle.chunk_lookups.proofs.put_checkpoints.Goals as goal

pub loop-i-init : goal.loop-i-init
unfolding sums_before
loop-i-init c = (omega arith, refl, refl, refl)

pub overflow_mul-room : goal.overflow_mul-room
overflow_mul-room c = omega arith

pub bounds-room-i : goal.bounds-room-i
bounds-room-i c = omega (arith, c.loop-i.invariant.3, c.requires)

pub overflow_mul-room-in-loop-i : goal.overflow_mul-room-in-loop-i
overflow_mul-room-in-loop-i c = omega arith

pub overflow_add-room : goal.overflow_add-room
overflow_add-room c = omega arith

pub bounds-room-i-in-loop-i : goal.bounds-room-i-in-loop-i
bounds-room-i-in-loop-i c = simp length-set (omega (arith, c.loop-i.invariant.3, c.requires))

pub overflow_mul-i : goal.overflow_mul-i
overflow_mul-i c = omega arith

pub overflow_add-i : goal.overflow_add-i
overflow_add-i c = omega arith

pub after-requires : goal.after-requires
after-requires c = tt

pub sums_past-r-requires : goal.sums_past-r-requires
sums_past-r-requires c = tt

pub loop-i-preserved : goal.loop-i-preserved
loop-i-preserved c =
    let l = c.loop-i in
    let a = c.args in
    let t = deal_runs a.stsc.now a.chunks in
    let e : chunk_runs (λ e. e.per) a.chunks (deals_in c.after.result.now) ≡ drop (64 * l.i) t =
    ap (λ (x : List ℕ). chunk_runs (λ e. e.per) a.chunks (deals_in x)) c.after.ensures ∙ runs_from a.stsc.now a.chunks l.i
    in (
      omega arith,
      c.sums_past-r.ensures ∙ rw e (sums_next t l.i l.r l.invariant.1),
      put_next t _ l.room l.i l.r l.invariant.1 l.invariant.2,
      simp length-set l.invariant.3,
    )

pub shape_of-room : goal.shape_of-room
shape_of-room c = c.loop-i.invariant.3

pub returns : goal.returns
returns c =
    let l = c.loop-i in
    let z : l.i ≡ c.args.count = omega arith in
    rw z at l.invariant.2
