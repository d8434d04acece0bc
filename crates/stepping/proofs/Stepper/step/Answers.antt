-- `stepping::Stepper::step` meets its contract: each answer of `step_in` is one of the answers.
-- Assumes nothing.
use mathlib.Core.Path.{◌≡◌}
use native.Mathlib.Omega.{arith}
use Rattle.step_moves.specs.Moves.{stepped_on}
use Rattle.stepping.specs.Parts.{bytes_in}
use Rattle.stepping.proofs.Stepped.{stepped_parts, steps_end, steps_next}
use Rattle.stepping.proofs.Stepper.step.Goals as goal

pub part_of-z-requires : goal.part_of-z-requires
part_of-z-requires c = tt

pub part_of-o-requires : goal.part_of-o-requires
part_of-o-requires c = tt

pub heads_of-heads-requires : goal.heads_of-heads-requires
heads_of-heads-requires c = tt

pub part_of-requires : goal.part_of-requires
part_of-requires c = tt

pub part_of-requires-2 : goal.part_of-requires-2
part_of-requires-2 c = tt

pub part_of-requires-3 : goal.part_of-requires-3
part_of-requires-3 c = tt

pub part_of-requires-4 : goal.part_of-requires-4
part_of-requires-4 c = tt

pub returns-in-Some : goal.returns-in-Some
returns-in-Some c =
    let stepped : let a = c.args in c.step_in-r.result ≡ stepped_on (bytes_in a.lent.now a.self.tables) a.self.samples a.self.moving = let a = c.args in
    stepped_parts _ a.self _ _ _ _ _ _ _ c.part_of.ensures c.part_of-2.ensures c.part_of-3.ensures c.part_of-z.ensures c.part_of-o.ensures c.part_of-4.ensures c.step_in-r.ensures in
    steps_next _ c.args.self _ (stepped) _ c.in-Some.is (omega arith)

pub returns-in-None : goal.returns-in-None
returns-in-None c =
    let stepped : let a = c.args in c.step_in-r.result ≡ stepped_on (bytes_in a.lent.now a.self.tables) a.self.samples a.self.moving = let a = c.args in
    stepped_parts _ a.self _ _ _ _ _ _ _ c.part_of.ensures c.part_of-2.ensures c.part_of-3.ensures c.part_of-z.ensures c.part_of-o.ensures c.part_of-4.ensures c.step_in-r.ensures in
    steps_end _ c.args.self _ (stepped) c.in-None.is
