-- `host_fragments::hand_fragments` meets its contract, case by case of the answer.
-- Assumes nothing.
use mathlib.Core.Path.{sym, ◌∙◌}
use mathlib.Core.List.{[], ◌∷◌}
use Rattle.hand.proofs.Answered.{handed, of_case}
use Rattle.fragments.specs.Fragments.{fragments_numbers}
use Rattle.host_fragments.proofs.hand_fragments.Goals as goal

pub returns-in-Ok : goal.returns-in-Ok
unfolding fragments_numbers
returns-in-Ok c =
    let e = of_case fragments_numbers c.fragments.ensures.answer c.in-Ok.is in
    handed _ _ _ _ _ _ (e ∙ (λ i. 0 ∷ sym c.bit.ensures i ∷ sym c.bit-in-Ok.ensures i ∷ [])) c.hand.ensures

pub returns-in-Err : goal.returns-in-Err
unfolding fragments_numbers
returns-in-Err c =
    let e = of_case fragments_numbers c.fragments.ensures.answer c.in-Err.is in
    handed _ _ _ _ _ _ e (rw c.from.ensures at c.hand-in-Err.ensures)
