-- Conditions that agree where another holds agree everywhere.
-- Assumes nothing.
use Prim.Native.Nat.{ℕ, zero, suc}
use mathlib.Core.Path.{◌≡◌, refl, ap}
use mathlib.Core.List.{List, [], ◌∷◌}
use mathlib.Core.Bool.{Bool, true, false, cond, ◌&&◌}
use Rattle.lists.proofs.Booleans.{and_left, and_right}
use Rattle.atoms.specs.Kinds.{container}
use Rattle.atoms.specs.Atoms.{kind_of, body_of, atoms}
use Rattle.atoms.specs.Tree.{all, everywhere}

pub all_same : (f g h : List ℕ → Bool) (l : List (List ℕ)) → ((a : List ℕ) → h a ≡ true → f a ≡ g a) → all h l ≡ true → all f l ≡ all g l
unfolding all
all_same f g h [] e k = refl
all_same f g h (a ∷ l) e k = rw (e a (and_left (h a) _ k), all_same f g h l e (and_right (h a) _ k))

pub everywhere_same : (f g h : ℕ → List ℕ → Bool) → ((p : ℕ) (b : List ℕ) → h p b ≡ true → f p b ≡ g p b) → (n p : ℕ) (s : List ℕ)
    → everywhere h n p s ≡ true → everywhere f n p s ≡ everywhere g n p s
unfolding everywhere
everywhere_same f g h e zero p s k = refl
everywhere_same f g h e (suc n) p s k =
    rw (e p s (and_left (h p s) _ k))
    (ap (λ b. g p s && b) (all_same _ _ _ (atoms p s) (λ a. go a (container p (kind_of a)) (everywhere_same f g h e n (kind_of a) (body_of a))) (and_right (h p s) _ k)))
  where
    go : (a : List ℕ) (b : Bool) → (everywhere h n (kind_of a) (body_of a) ≡ true → everywhere f n (kind_of a) (body_of a) ≡ everywhere g n (kind_of a) (body_of a))
        → cond b (everywhere h n (kind_of a) (body_of a)) true ≡ true
        → cond b (everywhere f n (kind_of a) (body_of a)) true ≡ cond b (everywhere g n (kind_of a) (body_of a)) true
    go a true ih q = ih q
    go a false ih q = refl
