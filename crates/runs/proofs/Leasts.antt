-- The least of some numbers that is not 0, over lists: of two lists one after the other it is the lesser of theirs, and of a number that stands in a row that number.
-- Assumes nothing.
use Prim.Native.Nat.{ℕ, zero, suc, min}
use mathlib.Core.Path.{◌≡◌, refl, sym, ap, ◌∙◌}
use mathlib.Core.List.{List, [], ◌∷◌, ◌++◌}
use native.Mathlib.Omega.{arith}
use native.Mathlib.Decide.{ℕ_discrete}
use lib.ListN.{replicate}
use borrow.Author.Tests.{eq-eqb, ne_eqb}
use Rattle.runs.specs.Runs.{lesser_of, least_of}

pub lesser_none : (a b : ℕ) → a ≡ 0 → lesser_of a b ≡ b
lesser_none a b z = rw (eq-eqb a 0 z)

pub lesser_other : (a b : ℕ) → (a ≡ 0 → ⊥) → b ≡ 0 → lesser_of a b ≡ a
lesser_other a b z e = rw (ne_eqb a 0 z, eq-eqb b 0 e)

pub lesser_both : (a b : ℕ) → (a ≡ 0 → ⊥) → (b ≡ 0 → ⊥) → lesser_of a b ≡ min a b
lesser_both a b z e = rw (ne_eqb a 0 z, ne_eqb b 0 e)

pub lesser_zero : (a : ℕ) → lesser_of a 0 ≡ a
lesser_zero a = elim (ℕ_discrete a 0) [
  | yes z ↦ lesser_none a 0 z ∙ sym z
  | no z ↦ lesser_other a 0 z refl
]

min_assoc : (a b c : ℕ) → min (min a b) c ≡ min a (min b c)
min_assoc a b c = omega arith

lesser_assoc : (a b c : ℕ) → lesser_of (lesser_of a b) c ≡ lesser_of a (lesser_of b c)
lesser_assoc a b c = elim (ℕ_discrete a 0) [
  | yes x ↦ rw (lesser_none a b x, lesser_none a (lesser_of b c) x)
  | no x ↦ elim (ℕ_discrete b 0) [
    | yes y ↦ rw (lesser_other a b x y, lesser_none b c y)
    | no y ↦ elim (ℕ_discrete c 0) [
      | yes z ↦ rw (z, lesser_zero (lesser_of a b), lesser_zero b)
      | no z ↦
          let p : min a b ≡ 0 → ⊥ = λ e. omega arith in
          let q : min b c ≡ 0 → ⊥ = λ e. omega arith in
          rw (lesser_both a b x y, lesser_both b c y z, lesser_both (min a b) c p z, lesser_both a (min b c) x q) (min_assoc a b c)
    ]
  ]
]

lesser_same : (v : ℕ) → lesser_of v v ≡ v
lesser_same v = elim (ℕ_discrete v 0) [
  | yes z ↦ lesser_none v v z
  | no z ↦ rw (lesser_both v v z z) (omega arith)
]

least_append : (xs ys : List ℕ) → least_of (xs ++ ys) ≡ lesser_of (least_of xs) (least_of ys)
least_append [] ys = refl
least_append (x ∷ xs) ys = ap (lesser_of x) (least_append xs ys) ∙ sym (lesser_assoc x (least_of xs) (least_of ys))

pub least_row : (n v : ℕ) → (n ≡ 0 → ⊥) → least_of (replicate n v) ≡ v
least_row zero v h = absurd (h refl)
least_row (suc zero) v h = lesser_zero v
least_row (suc (suc n)) v h = ap (lesser_of v) (least_row (suc n) v (λ e. omega arith)) ∙ lesser_same v

-- a turn of the loop: the least so far, a run's and the rest's
pub least_turn : (least n v : ℕ) (r : List ℕ) → lesser_of (lesser_of least (least_of (replicate n v))) (least_of r) ≡ lesser_of least (least_of (replicate n v ++ r))
least_turn least n v r = lesser_assoc least (least_of (replicate n v)) (least_of r) ∙ ap (lesser_of least) (sym (least_append (replicate n v) r))
