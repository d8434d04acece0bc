-- `profile_faults::first_fault` meets its contract; the loop's invariant: no record passed is at fault, so the rest decides.
-- Assumes nothing.
use borrow.Author.Rules.{rules}
use Prim.Native.Nat.{◌+◌, ◌≤◌}
use native.Mathlib.Omega.{arith}
use mathlib.Core.Path.{sym, ap, ◌∙◌}
use lib.ListN.{length, drop, length-drop}
use Rattle.bigendian.proofs.Parts.{rest as part-rest}
use Rattle.feature_checks.proofs.Judging.{no_bound}
use Rattle.profile_faults.proofs.Faults.{passed_none, passed_all, passed_skip, found_format, found_feature, passed_one}
use Rattle.profile_faults.proofs.first_fault.Goals.{then-u32_at-ne0+else-format_fault+else-judged, else-u32_at-ne0}
use Rattle.profile_faults.proofs.first_fault.Goals as goal

pub is_missing-missing-requires : goal.is_missing-missing-requires
is_missing-missing-requires c = c.requires.0

pub no_bounds-bounds-requires : goal.no_bounds-bounds-requires
no_bounds-bounds-requires c = tt

pub part_of-requires : goal.part_of-requires
part_of-requires c = tt

pub after-t-requires : goal.after-t-requires
after-t-requires c = tt

pub loop-t-init : goal.loop-t-init
loop-t-init c = passed_none _ _ _ _ _ _ (no_bound _ _ _ c.no_bounds-bounds.ensures) c.is_missing-missing.ensures c.requires.0.profile (c.after-t.ensures ∙ ap (drop 16) c.part_of.ensures)

pub u32_at-requires : goal.u32_at-requires
u32_at-requires c = tt

pub format_fault-requires : goal.format_fault-requires
format_fault-requires c = c.requires.0

pub returns-then-format_fault : goal.returns-then-format_fault
returns-then-format_fault c =
    let l = c.loop-t in
    found_format _ _ _ _ _ _ l.invariant _ c.loop-t-test.true c.u32_at.ensures c.if-u32_at-ne0.true (sym c.format_fault.ensures ∙ c.if-format_fault.true)

pub judge_feature-judged-requires : goal.judge_feature-judged-requires
judge_feature-judged-requires c = record { are_parts = c.requires; are_bounds = c.loop-t.invariant.known }

pub returns-then-judged : goal.returns-then-judged
returns-then-judged c =
    let l = c.loop-t in
    found_feature _ _ _ _ _ _ l.invariant _ c.loop-t-test.true c.u32_at.ensures c.if-u32_at-ne0.true _ c.judge_feature-judged.ensures c.if-judged.true

pub overflow_add-place : goal.overflow_add-place
overflow_add-place c =
    let g : c.loop-t.place + 1 ≤ length c.args.trak.now = omega (arith, c.loop-t.invariant.within, c.loop-t-test.true) in
    search rules

pub loop-t-smaller : goal.loop-t-smaller
loop-t-smaller c = let l = c.loop-t.t.now in rw (part-rest 16 l) (omega (arith, length-drop 16 l, c.loop-t-test.true))

pub loop-t-preserved : goal.loop-t-preserved
loop-t-preserved c =
    let l = c.loop-t in
    let s = l.t.now in
    let h = c.loop-t-test.true in
    let e = c.u32_at.ensures in
    rw (part-rest 16 s)
    (elim c.if-u32_at-ne0.branch [
      | then-u32_at-ne0+else-format_fault+else-judged w ↦
          rw (w.bounds-is, w.place-is)
          (passed_one _ _ _ _ _ _ l.invariant _ h e w.if-u32_at-ne0.true _ w.judge_feature-judged.ensures (sym w.format_fault.ensures ∙ w.if-format_fault.false) w.if-judged.false)
      | else-u32_at-ne0 w ↦ rw (w.bounds-is, w.place-is) (passed_skip _ _ _ _ _ _ l.invariant _ h e w.if-u32_at-ne0.false)
    ])

pub returns : goal.returns
returns c = passed_all _ _ _ _ _ _ c.loop-t.invariant c.loop-t-test.false
