-- After an opening that answers 0 a start by the handle hands over what the start does without one.
-- Assumes nothing.
use Prim.Native.Nat.{ℕ}
use mathlib.Core.Path.{◌≡◌}
use mathlib.Core.List.{List}
use Rattle.structure.specs.declared.source.Source.{Source}
use Rattle.host_opened.specs.Hands.{HandsOpening}
use Rattle.host_opened.proofs.Handed.{long, opening_opens}
use Rattle.host_step_starts.proofs.Handed.{hands_start}
use Rattle.host_opened_steps.specs.Hands.{SameStart}

pub same_start : (s : List ℕ) (w : Source) (id : ℕ) (places : List ℕ) (r : ℕ) (after : List ℕ) → HandsOpening s w id places r after → r ≡ 0 → SameStart s w id after
same_start s w id places r after d z n stepper k left h =
    let a = h.answered (long s w id places r after d z) in
    hands_start stepper k left a.answer s w id n (a.promise.right w id (opening_opens s w id places r after d z)) a.handed
