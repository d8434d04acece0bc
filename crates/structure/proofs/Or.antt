-- Answers that are joined by `||`, and counts held against a limit: what the functions of refusals 5 and 6 go by.
-- Assumes nothing.
use Prim.Native.Nat.{ℕ}
use mathlib.Core.Path.{◌≡◌, ap, ◌∙◌}
use mathlib.Core.List.{List}
use mathlib.Core.Bool.{Bool, ◌||◌}
use lib.Dec.{ltb}
use Rattle.bigendian.specs.BigEndian.{u32_at}

pub either_are : {r x y a b : Bool} → r ≡ (x || y) → x ≡ a → y ≡ b → r ≡ (a || b)
either_are {y = y} {a = a} e f g = e ∙ ap (λ t. t || y) f ∙ ap (λ t. a || t) g

-- the number n that was read in the part a, which is b
pub over_is : (limit at n : ℕ) (a b : List ℕ) → n ≡ u32_at a at → a ≡ b → ltb limit n ≡ ltb limit (u32_at b at)
over_is limit at n a b e f = ap (ltb limit) (e ∙ ap (λ x. u32_at x at) f)
