-- `windows::grown` meets its contract: the cursor is passed on and made ready.
-- Assumes nothing.
use Prim.Native.Nat.{◌+◌}
use mathlib.Core.Path.{ap, ◌∙◌}
use native.Mathlib.Omega.{arith}
use Rattle.runs.specs.Cursors.{readied_run}
use Rattle.windows.proofs.grown.Goals as goal

pub overflow_add-result-3 : goal.overflow_add-result-3
overflow_add-result-3 c = record { fits = omega (arith, c.ranges.size, c.requires.2) }

pub returns : goal.returns
returns c =
    let a = c.args in
    let w = a.w in
    λ i. record {
      tail = w.tail;
      head = (c.run_ready.ensures ∙ ap (readied_run a.stts.now) c.run_pass.ensures) i;
      first = w.first;
      stop = w.stop + 1;
      span = w.span + w.head.each;
      bytes = w.bytes + a.size;
    }
