-- Parts of a slice as lists: `&t[n..]`, as the rule for a part has it, is `drop n t`, since no more than its length is taken of it.
-- Assumes nothing.
use Prim.Native.Nat.{ℕ, ◌-◌}
use mathlib.Core.Path.{◌≡◌}
use mathlib.Core.List.{List}
use lib.ListN.{length, take, drop, length-drop}
use lib.Seq.{take_all}
use native.Mathlib.Omega.{arith}

pub rest : (n : ℕ) (t : List ℕ) → take (length t - n) (drop n t) ≡ drop n t
rest n t = take_all (length t - n) (drop n t) (omega (arith, length-drop n t))
