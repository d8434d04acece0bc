-- `peaks::moved_by` meets its contract: both cursors are passed on and made ready.
-- Assumes nothing.
use Prim.Native.Nat.{◌+◌}
use mathlib.Core.Path.{ap, ◌∙◌}
use Rattle.runs.specs.Cursors.{readied_run}
use Rattle.peaks.proofs.moved_by.Goals as goal

pub returns : goal.returns
returns c =
    let a = c.args in
    let w = a.w in
    λ i. record {
      tail = (c.run_ready.ensures ∙ ap (readied_run a.stts.now) c.run_pass.ensures) i;
      head = (c.run_ready-2.ensures ∙ ap (readied_run a.stts.now) c.run_pass-2.ensures) i;
      first = w.first + a.s.moved;
      stop = w.stop + a.s.moved;
      span = w.span;
      bytes = a.s.bytes;
    }
