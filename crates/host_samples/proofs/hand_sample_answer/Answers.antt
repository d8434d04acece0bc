-- `host_samples::hand_sample_answer` meets its contract, case by case of the answer; its numbers are low enough to have a sign.
-- Assumes nothing.
use native.Mathlib.Omega.{arith}
use mathlib.Core.Path.{◌≡◌, refl, ap}
use mathlib.Core.Bool.{Bool, true, false, cond}
use lib.IntN.{pos}
use mir.Syntax.{w64}
use mir.Val.{bool_byte, to_z}
use mir.ValLaws.{to_z-of_z}
use Rattle.std.proofs.lemmas.Int.{to_z_pos}
use mir.Val.{SFits}
use borrow.Author.Rules.{rules}
use Rattle.questions.specs.Samples.{sample_zeros, sample_numbers}
use Rattle.hand.proofs.Answered.{handed_signed}
use Rattle.host_samples.proofs.hand_sample_answer.Goals as goal

as_number : (b : Bool) → to_z w64 (bool_byte b) ≡ pos (cond b 1 0)
as_number true = refl
as_number false = refl

pub overflow_cast-s-in-Ok : goal.overflow_cast-s-in-Ok
overflow_cast-s-in-Ok c = record { sfits = omega (arith, (c.requires _ c.in-Ok.is).0) }

pub overflow_cast-s-in-Ok-4 : goal.overflow_cast-s-in-Ok-4
overflow_cast-s-in-Ok-4 c = record { sfits = omega (arith, (c.requires _ c.in-Ok.is).1) }

pub overflow_cast-s-in-Ok-5 : goal.overflow_cast-s-in-Ok-5
overflow_cast-s-in-Ok-5 c = record { sfits = omega (arith, (c.requires _ c.in-Ok.is).2) }

pub returns-in-Ok : goal.returns-in-Ok
unfolding sample_numbers
returns-in-Ok c =
    let s = c.in-Ok.s in
    let q = c.requires _ c.in-Ok.is in
    let z =
    rw (
      to_z_pos w64 s.decode (omega (arith, q.0)),
      to_z_pos w64 s.duration (omega arith),
      to_z_pos w64 s.description (omega arith),
      to_z_pos w64 s.chunk (omega (arith, q.1)),
      to_z_pos w64 s.offset (omega (arith, q.2)),
      to_z_pos w64 s.size (omega arith),
    )
    at c.hand.ensures in
    let f : SFits w64 s.composition = search rules in
    handed_signed _ _ _ _ _ _ (ap sample_numbers c.in-Ok.is) (rw (to_z-of_z w64 s.composition f, as_number s.sync) at z)

pub returns-in-Err : goal.returns-in-Err
unfolding sample_numbers sample_zeros
returns-in-Err c = handed_signed _ _ _ _ _ _ (ap sample_numbers c.in-Err.is) (rw c.from.ensures at c.hand-in-Err.ensures)
