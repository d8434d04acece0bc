-- The same in another order: sums, and lists put together.
-- Assumes nothing.
use Prim.Native.Nat.{ℕ, ◌+◌}
use mathlib.Core.Path.{◌≡◌, refl, ap, ◌∙◌}
use mathlib.Core.List.{List, [], ◌∷◌, ◌++◌, map}
use native.Mathlib.Omega.{arith}
use Rattle.lists.specs.Lists.{sum}
use Rattle.film_return_theorems.specs.Filing.{joined, Reordered, none, keep, swap, then}

pub order_sum : {A : Type 0} (g : A → ℕ) {l m : List A} → Reordered l m → sum (map g l) ≡ sum (map g m)
order_sum g none = refl
order_sum g (keep {x} h) = ap (λ k. g x + k) (order_sum g h)
order_sum g swap = omega arith
order_sum g (then h k) = order_sum g h ∙ order_sum g k

pub order_map : {A B : Type 0} (g : A → B) {l m : List A} → Reordered l m → Reordered (map g l) (map g m)
order_map g none = none
order_map g (keep h) = keep (order_map g h)
order_map g swap = swap
order_map g (then h k) = then (order_map g h) (order_map g k)

pub order_back : {A : Type 0} {l m : List A} → Reordered l m → Reordered m l
order_back none = none
order_back (keep h) = keep (order_back h)
order_back swap = swap
order_back (then h k) = then (order_back k) (order_back h)

past : {A : Type 0} (x : A) (b l : List A) → Reordered (x ∷ (b ++ l)) (b ++ (x ∷ l))
past x [] l = none
past x (y ∷ b) l = then swap (keep (past x b l))

pub exchanged : {A : Type 0} (a b l : List A) → Reordered (a ++ (b ++ l)) (b ++ (a ++ l))
exchanged [] b l = none
exchanged (x ∷ a) b l = then (keep (exchanged a b l)) (past x b (a ++ l))

after : {A : Type 0} (a : List A) {l m : List A} → Reordered l m → Reordered (a ++ l) (a ++ m)
after [] h = h
after (x ∷ a) h = keep (after a h)

pub order_joined : {A B : Type 0} (f : A → List B) {l m : List A} → Reordered l m → Reordered (joined f l) (joined f m)
order_joined f none = none
order_joined f (keep {x} h) = after (f x) (order_joined f h)
order_joined f (swap {x} {y} {l}) = exchanged (f x) (f y) (joined f l)
order_joined f (then h k) = then (order_joined f h) (order_joined f k)
