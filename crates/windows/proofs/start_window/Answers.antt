-- `windows::start_window` meets its contract: both cursors are ready before the first sample.
-- Assumes nothing.
use mathlib.Core.Path.{◌≡◌, ap, ◌∙◌}
use Rattle.runs.specs.Cursors.{start_run, readied_run}
use Rattle.windows.proofs.start_window.Goals as goal

pub returns : goal.returns
returns c =
    let ready : c.run_ready-c.result ≡ readied_run c.args.stts.now start_run = c.run_ready-c.ensures ∙ ap (readied_run c.args.stts.now) c.run_start.ensures in
    λ i. record { tail = ready i; head = ready i; first = 0; stop = 0; span = 0; bytes = 0 }
