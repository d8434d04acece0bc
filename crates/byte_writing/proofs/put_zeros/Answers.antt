-- `byte_writing::put_zeros` meets its contract: the part of the output holds zeros.
-- Assumes nothing.
use Prim.Native.Nat.{ℕ, ◌+◌, ◌-◌, ◌≤◌}
use mathlib.Core.Path.{refl, ◌≡◌, ap, ◌∙◌}
use native.Mathlib.Omega.{arith}
use lib.ListN.{length, replicate, drop, take, length-replicate, length-drop}
use lib.Seq.{length-take-le}
use Rattle.byte_writing.proofs.Writing.{part_written}
use Rattle.byte_writing.proofs.put_zeros.Goals as goal

pub returns : goal.returns
returns c =
    let a = c.args in
    let e : a.at + a.n - a.at ≡ length (replicate {A = ℕ} a.n 0) = omega (arith, length-replicate {A = ℕ} a.n 0) in
    let h : a.at + length (replicate {A = ℕ} a.n 0) ≤ length a.out.now = omega (arith, length-replicate {A = ℕ} a.n 0, c.requires) in
    let n : length (take (a.at + a.n - a.at) (drop a.at a.out.now)) ≡ a.n =
    length-take-le (a.at + a.n - a.at) (drop a.at a.out.now) (omega (arith, length-drop a.at a.out.now, c.requires)) ∙ omega arith in
    (refl, part_written a.out.now (replicate a.n 0) _ a.at _ h e (c.fill.ensures.after (λ y q. q) ∙ ap (λ (k : ℕ). replicate k 0) n))
