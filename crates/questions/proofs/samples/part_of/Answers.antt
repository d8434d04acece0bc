-- `questions::samples::part_of` meets its contract.
-- Assumes nothing.
use Prim.Native.Nat.{◌+◌, ◌-◌}
use mathlib.Core.Path.{◌≡◌, refl}
use native.Mathlib.Omega.{arith}
use Rattle.std.proofs.lemmas.List.{length-drop, length-take-le}
use Rattle.questions.proofs.samples.part_of.Goals as goal

pub returns : goal.returns
returns c =
    let s = c.args.start in
    let z = c.args.size in
    let e : s + z - s ≡ z = omega arith in
    record { bytes = rw e; count = rw e (length-take-le _ _ (omega (arith, length-drop s c.args.file.now))); block = refl; offset = refl }
