-- `&&` of two answers that are known: what the callers of `both` go by.
-- Assumes nothing.
use mathlib.Core.Path.{◌≡◌, ap, ◌∙◌}
use mathlib.Core.Bool.{Bool, ◌&&◌}

pub both_are : {r x y a b : Bool} → r ≡ (x && y) → x ≡ a → y ≡ b → r ≡ (a && b)
both_are {y = y} {a = a} e f g = e ∙ ap (λ t. t && y) f ∙ ap (λ t. a && t) g
