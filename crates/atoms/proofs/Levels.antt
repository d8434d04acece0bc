-- "A tree is six levels deep at most": more levels than six change no answer, since a container's body needs fewer levels than the body
-- that it stands in.
-- Assumes nothing.
use Prim.Native.Nat.{ℕ, zero, suc, ◌+◌, ◌≤◌}
use mathlib.Core.Path.{◌≡◌, refl, ap, ◌∙◌}
use mathlib.Core.Logic.{◌⊎◌, inl, inr, ⊎_elim}
use mathlib.Core.List.{List, [], ◌∷◌}
use mathlib.Core.Bool.{Bool, true, false, cond, ◌&&◌}
use lib.Dec.{eqb}
use borrow.Author.Tests.{eqb-true}
use native.Mathlib.Nat.{add-zero, add-suc}
use native.Mathlib.Omega.{arith}
use Rattle.atoms.specs.Kinds.{file, moov, trak, edts, mdia, minf, stbl, dinf, container}
use Rattle.atoms.specs.Atoms.{kind_of, body_of, atoms}
use Rattle.atoms.specs.Tree.{all, everywhere}
use Rattle.atoms.proofs.Laws.{below}

-- how many levels the body of the parent p has at most, itself counted
need : ℕ → ℕ
need p = cond (eqb p file) 6 (cond (eqb p moov) 5 (cond (eqb p trak) 4 (cond (eqb p mdia) 3 (cond (eqb p minf) 2 1))))

-- which case of a `cond` holds
pick : (b x y : Bool) → cond b x y ≡ true → ((b ≡ true) × (x ≡ true)) ⊎ (y ≡ true)
pick true x y e = inl (refl, e)
pick false x y e = inr e

known : (p q k j : ℕ) → suc (need j) ≤ need q → ((eqb k j ≡ true) × (eqb p q ≡ true)) → suc (need k) ≤ need p
known p q k j h e = rw (eqb-true k j e.0, eqb-true p q e.1) h

never : ◌≡◌ {A = Bool} false true → ⊥
never e = let z : ◌≡◌ {A = ℕ} 0 1 = cc in omega arith

lower : (p k : ℕ) → container p k ≡ true → suc (need k) ≤ need p
unfolding container need
lower p k h =
    ⊎_elim (known p file k moov (omega arith))
    (λ a. ⊎_elim (known p moov k trak (omega arith))
    (λ b. ⊎_elim (known p trak k edts (omega arith))
    (λ c. ⊎_elim (known p trak k mdia (omega arith))
    (λ d. ⊎_elim (known p mdia k minf (omega arith))
    (λ e. ⊎_elim (known p minf k stbl (omega arith))
    (λ f. ⊎_elim (known p minf k dinf (omega arith)) (λ g. absurd (never g)) (pick (eqb k dinf) _ _ f)) (pick (eqb k stbl) _ _ e))
    (pick (eqb k minf) _ _ d)) (pick (eqb k mdia) _ _ c)) (pick (eqb k edts) _ _ b)) (pick (eqb k trak) _ _ a)) (pick (eqb k moov) _ _ h)

cond_pos : (b : Bool) (x y : ℕ) → 1 ≤ x → 1 ≤ y → 1 ≤ cond b x y
cond_pos true x y h g = h
cond_pos false x y h g = g

need_pos : (p : ℕ) → 1 ≤ need p
unfolding need
need_pos p =
    cond_pos (eqb p file) _ _ (omega arith) (cond_pos (eqb p moov) _ _ (omega arith) (cond_pos (eqb p trak) _ _ (omega arith)
    (cond_pos (eqb p mdia) _ _ (omega arith) (cond_pos (eqb p minf) _ _ (omega arith) (omega arith)))))

all_same : (f g : List ℕ → Bool) (l : List (List ℕ)) → ((a : List ℕ) → f a ≡ g a) → all f l ≡ all g l
unfolding all
all_same f g [] h = refl
all_same f g (a ∷ l) h = ap (λ b. b && all f l) (h a) ∙ ap (λ b. g a && b) (all_same f g l h)

module _ (check : ℕ → List ℕ → Bool) where
  same_below : (n p : ℕ) (a : List ℕ) → need p ≤ suc n
      → ((k : ℕ) (s : List ℕ) → need k ≤ n → everywhere check (suc n) k s ≡ everywhere check n k s) → below check (suc n) p a ≡ below check n p a
  same_below n p a h f = go (container p (kind_of a)) refl
    where
      go : (b : Bool) → container p (kind_of a) ≡ b → cond b (everywhere check (suc n) (kind_of a) (body_of a)) true ≡ cond b (everywhere check n (kind_of a) (body_of a)) true
      go true e = f (kind_of a) (body_of a) (omega (arith, lower p (kind_of a) e))
      go false e = refl

  one-more : (n p : ℕ) (s : List ℕ) → need p ≤ n → everywhere check (suc n) p s ≡ everywhere check n p s
  unfolding everywhere
  one-more zero p s h = absurd (omega (arith, need_pos p))
  one-more (suc n) p s h = ap (λ b. check p s && b) (all_same _ _ (atoms p s) (λ a. same_below n p a h (λ k t g. one-more n k t g)))

  levels : (d n p : ℕ) (s : List ℕ) → need p ≤ n → everywhere check (n + d) p s ≡ everywhere check n p s
  levels zero n p s h = rw (add-zero n)
  levels (suc d) n p s h = rw (add-suc n d) (one-more (n + d) p s (omega arith) ∙ levels d n p s h)

  pub six_levels : (d : ℕ) (s : List ℕ) → everywhere check (6 + d) file s ≡ everywhere check 6 file s
  unfolding need
  six_levels d s = levels d 6 file s (omega arith)

  pub five_levels : (d : ℕ) (m : List ℕ) → everywhere check (5 + d) moov m ≡ everywhere check 5 moov m
  unfolding need
  five_levels d m = levels d 5 moov m (omega arith)
