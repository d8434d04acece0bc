-- `step_moves::step_in` meets its contract: each way out is one of the definition's.
-- Assumes nothing.
use Prim.Native.Nat.{ℕ}
use mathlib.Core.List.{List}
use mathlib.Core.Path.{sym, ap, ◌∙◌}
use native.Mathlib.Omega.{arith}
use Rattle.positions.specs.Moving.{Bytes, readied_moving, may_move}
use Rattle.positions.proofs.Standing.{may_not, may_so}
use Rattle.step_moves.specs.Moves.{moved_on}
use Rattle.step_moves.proofs.Answers.{moved_end, moved_some, stepped_past, stepped_by}
use Rattle.step_moves.proofs.step_in.Goals as goal

abbrev bytes : List ℕ → List ℕ → List ℕ → List ℕ → List ℕ → List ℕ → Bytes
bytes stts ctts stsc stsz offsets stss = record { stts = stts; ctts = ctts; stsc = stsc; stsz = stsz; offsets = offsets; stss = stss }

pub returns-then-samples-m : goal.returns-then-samples-m
returns-then-samples-m c = stepped_past (bytes c.args.stts.now c.args.ctts.now c.args.stsc.now c.args.stsz.now c.args.offsets.now c.args.stss.now) c.args.samples c.args.m c.if-samples-m.true

pub read_entries-requires : goal.read_entries-requires
read_entries-requires c = ap (λ h. h.offsets) c.requires

pub returns-in_err-n : goal.returns-in_err-n
returns-in_err-n c = c.from_residual.ensures ∙ moved_end _ _ (readied_moving c.args.stts.now c.args.ctts.now c.args.stsc.now c.args.offsets.now c.args.m) (may_not (readied_moving c.args.stts.now c.args.ctts.now c.args.stsc.now c.args.offsets.now c.args.m) (sym c.read_entries.ensures ∙ c.in_err-n.was)) ∙ stepped_by (bytes c.args.stts.now c.args.ctts.now c.args.stsc.now c.args.stsz.now c.args.offsets.now c.args.stss.now) c.args.samples c.args.m c.if-samples-m.false

pub moved-requires : goal.moved-requires
moved-requires c =
    let w = may_so (readied_moving c.args.stts.now c.args.ctts.now c.args.stsc.now c.args.offsets.now c.args.m) _ (sym c.read_entries.ensures ∙ c.in_ok-n.was) in
    (ap (λ h. h.sizes) c.requires, sym (ap may_move w.1) ∙ w.0, omega (arith, ap (λ m. m.index) w.1, c.if-samples-m.false, c.well_formed, c.ranges))

pub returns : goal.returns
returns c =
    let w = may_so (readied_moving c.args.stts.now c.args.ctts.now c.args.stsc.now c.args.offsets.now c.args.m) _ (sym c.read_entries.ensures ∙ c.in_ok-n.was) in
    moved_some c.args.stsz.now c.args.stss.now _ (sym (ap may_move w.1) ∙ w.0) _ c.moved.ensures ∙ ap (moved_on c.args.stsz.now c.args.stss.now) (sym w.1) ∙ stepped_by (bytes c.args.stts.now c.args.ctts.now c.args.stsc.now c.args.stsz.now c.args.offsets.now c.args.stss.now) c.args.samples c.args.m c.if-samples-m.false
