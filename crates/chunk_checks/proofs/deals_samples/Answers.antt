-- `chunk_checks::deals_samples` meets its contract: whether the entries not yet read are right and deal what is left decides whether all are and do.
-- Assumes nothing.
use Prim.Native.Nat.{ℕ, ◌+◌, ◌*◌, ◌≤◌, ◌<◌}
use mathlib.Core.Path.{◌≡◌, refl, sym, ap, ◌∙◌}
use mathlib.Core.Bool.{Bool, true, false, ◌&&◌}
use native.Mathlib.Omega.{arith}
use native.Mathlib.Decide.{ℕ_discrete}
use lib.Dec.{eqb}
use lib.ListN.{length-drop}
use borrow.Author.Tests.{eq-eqb, ne_eqb}
use Rattle.bigendian.proofs.Parts.{rest as part-rest}
use Rattle.lists.specs.Lists.{sum}
use Rattle.chunks.specs.Chunks.{per_chunk}
use Rattle.chunks.specs.Computed.{deals_agree}
use Rattle.chunks.proofs.Turns.{agree_not, agree_on, dealing_falls, dealing_on, dealing_end, samples_in, run_fits, next_sum, dealt_end}
use Rattle.chunk_checks.proofs.deals_samples.Goals as goal

fails : {agree : Bool} (b : Bool) → agree ≡ false → false ≡ (agree && b)
fails b e = sym (rw e)

over : (agree : Bool) (all samples : ℕ) → samples < all → false ≡ (agree && eqb all samples)
over true all samples h = sym (ne_eqb all samples (λ e. omega arith))
over false all samples h = refl

-- what is left of the samples, against what all entries deal
left : {agree : Bool} (rest all samples : ℕ) → agree ≡ true → rest + all ≡ samples → eqb rest 0 ≡ (agree && eqb all samples)
left rest all samples a e = rw a (elim (ℕ_discrete rest 0) [
  | yes z ↦ let s : all ≡ samples = omega arith in eq-eqb rest 0 z ∙ sym (eq-eqb all samples s)
  | no z ↦ ne_eqb rest 0 z ∙ sym (ne_eqb all samples (λ s. z (omega arith)))
])

pub returns-then-first-ne1 : goal.returns-then-first-ne1
returns-then-first-ne1 c = fails _ (agree_not _ _ c.after-part.ensures _ c.first_of-first.ensures.0 c.if-first-ne1.true)

pub loop-ahead-init : goal.loop-ahead-init
loop-ahead-init c =
    let a = c.args in (
      c.first_of-first.ensures.0,
      c.first_of-first.ensures.1,
      agree_on _ _ c.after-part.ensures _ c.first_of-first.ensures.0 c.if-first-ne1.false,
      omega (arith, c.ranges.samples),
      omega (arith, ap sum (samples_in a.stsc.now a.chunks c.after-part.ensures)),
    )

pub returns-then-not-right : goal.returns-then-not-right
returns-then-not-right c =
    let l = c.loop-ahead in
    fails _ (sym l.invariant.2 ∙ dealing_falls _ _ _ c.loop-ahead-test.true (part-rest 12 l.ahead.now) l.invariant.0 c.first_of-next.ensures.0 _ c.u32_at-per.ensures c.u32_at-id.ensures c.right_entry-right.ensures c.if-not-right.true)

pub overflow_mul-here : goal.overflow_mul-here
overflow_mul-here c =
    let product : c.span.result * c.u32_at-per.result ≤ 18446744069414584320 = run_fits (omega (arith, c.span.ensures, c.first_of-next.ensures.1)) c.u32_at-per.type_inv in
    omega (arith, product)

pub returns-then-rest-here : goal.returns-then-rest-here
returns-then-rest-here c =
    let l = c.loop-ahead in
    let a = c.args in
    let e = next_sum _ _ _ c.loop-ahead-test.true (part-rest 12 l.ahead.now) l.invariant.0 c.first_of-next.ensures.0 c.span.ensures c.u32_at-per.ensures _ _ (sym l.invariant.4) in
    over (deals_agree a.stsc.now a.chunks a.descriptions) (sum (per_chunk a.stsc.now a.chunks)) a.samples (omega (arith, e, c.if-rest-here.true))

pub loop-ahead-smaller : goal.loop-ahead-smaller
loop-ahead-smaller c =
    let l = c.loop-ahead.ahead.now in
    rw (part-rest 12 l) (omega (arith, length-drop 12 l, c.loop-ahead-test.true))

pub loop-ahead-preserved : goal.loop-ahead-preserved
loop-ahead-preserved c =
    let l = c.loop-ahead in (
      c.first_of-next.ensures.0,
      c.first_of-next.ensures.1,
      sym (dealing_on _ _ _ c.loop-ahead-test.true (part-rest 12 l.ahead.now) l.invariant.0 c.first_of-next.ensures.0 _ c.u32_at-per.ensures c.u32_at-id.ensures c.right_entry-right.ensures c.if-not-right.false) ∙ l.invariant.2,
      omega (arith, l.invariant.3),
      omega (arith, next_sum _ _ _ c.loop-ahead-test.true (part-rest 12 l.ahead.now) l.invariant.0 c.first_of-next.ensures.0 c.span.ensures c.u32_at-per.ensures _ _ (sym l.invariant.4), c.if-rest-here.false),
    )

pub returns : goal.returns
returns c =
    let l = c.loop-ahead in
    let a = c.args in
    left l.rest (sum (per_chunk a.stsc.now a.chunks)) a.samples (sym l.invariant.2 ∙ dealing_end _ _ _ c.loop-ahead-test.false) (omega (arith, l.invariant.4, ap sum (dealt_end (λ e. e.per) a.chunks l.ahead.now c.loop-ahead-test.false)))
