-- `positions::moving::read_entries` meets its contract: each way out is one of the definition's.
-- Assumes nothing.
use Prim.Native.Nat.{ℕ}
use mathlib.Core.Path.{◌≡◌, sym, ap, ◌∙◌}
use Rattle.positions.specs.Dealing.{readied_dealt, ahead_of}
use Rattle.positions.specs.Moving.{readied_moving}
use Rattle.std.specs.Prelude.{Some}
use Rattle.positions.proofs.Standing.{too_late, none_dealt, dealt_at}
use Rattle.positions.proofs.moving.read_entries.Goals as goal

pub returns-then-m-gt4294967295 : goal.returns-then-m-gt4294967295
returns-then-m-gt4294967295 c = too_late (readied_moving c.args.stts.now c.args.ctts.now c.args.stsc.now c.args.offsets.now c.args.m) c.if-m-gt4294967295.true

pub dealt_ready-requires : goal.dealt_ready-requires
dealt_ready-requires c = ap (λ h. h.long) c.requires

pub returns-in_err-dealt : goal.returns-in_err-dealt
returns-in_err-dealt c =
    let ahead : c.dealt_ready.result ≡ ahead_of (readied_moving c.args.stts.now c.args.ctts.now c.args.stsc.now c.args.offsets.now c.args.m).dealt = c.dealt_ready.ensures ∙ ap (λ (n : ℕ). ahead_of (readied_dealt c.args.stsc.now c.args.offsets.now n c.args.m.dealt)) (ap (λ h. h.chunks) c.requires) in
    c.from_residual.ensures ∙ none_dealt (readied_moving c.args.stts.now c.args.ctts.now c.args.stsc.now c.args.offsets.now c.args.m) c.if-m-gt4294967295.false (sym (ahead) ∙ c.in_err-dealt.was)

pub returns : goal.returns
returns c =
    let ahead : c.dealt_ready.result ≡ ahead_of (readied_moving c.args.stts.now c.args.ctts.now c.args.stsc.now c.args.offsets.now c.args.m).dealt = c.dealt_ready.ensures ∙ ap (λ (n : ℕ). ahead_of (readied_dealt c.args.stsc.now c.args.offsets.now n c.args.m.dealt)) (ap (λ h. h.chunks) c.requires) in
    let w = dealt_at (readied_moving c.args.stts.now c.args.ctts.now c.args.stsc.now c.args.offsets.now c.args.m) _ c.if-m-gt4294967295.false (sym (ahead) ∙ c.in_ok-dealt.was) in
    (λ i. Some (record {
      index = c.args.m.index;
      decode = c.args.m.decode;
      times = c.run_ready-times.ensures i;
      shifts = c.run_ready-shifts.ensures i;
      dealt = sym w.1 i;
      sync = c.args.m.sync;
    }))
    ∙ w.0
