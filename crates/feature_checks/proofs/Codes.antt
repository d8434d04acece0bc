-- The index of a code among the six.
-- Assumes nothing.
use Prim.Native.Nat.{ℕ, suc, ◌≤◌, ◌<◌}
use mathlib.Core.Path.{◌≡◌, refl, sym}
use mathlib.Core.Bool.{Bool, true, false}
use mathlib.Core.List.{List, [], ◌∷◌}
use native.Mathlib.Omega.{arith}
use borrow.Author.Tests.{eqb-true, ne_eqb}
use lib.ListN.{length, get_or}
use lib.Dec.{eqb}
use Rattle.words.specs.Words.{listed}
use Rattle.features.specs.Features.{avvb, avab, mvbr, mabr, vfps, tvsz}
use Rattle.feature_checks.specs.Features.{feature_codes}
use Rattle.feature_checks.specs.Bounds.{index_in}

-- a list has a number exactly where its index is below the list's length, and there it stands
pub index_past : (x : ℕ) (xs : List ℕ) → length xs ≤ index_in x xs → listed x xs ≡ false
unfolding index_in
index_past x [] h = refl
index_past x (y ∷ ys) h = go (eqb y x) refl (λ k. index_past x ys k)
  where
    go : (b : Bool) → eqb y x ≡ b → (length ys ≤ index_in x ys → listed x ys ≡ false) → listed x (y ∷ ys) ≡ false
    go true q r = let z : length (y ∷ ys) ≤ 0 = rw q at h in absurd (omega arith)
    go false q r = let z : suc (length ys) ≤ suc (index_in x ys) = rw q at h in rw q (r (omega arith))

pub index_listed : (x : ℕ) (xs : List ℕ) → index_in x xs < length xs → listed x xs ≡ true
unfolding index_in
index_listed x [] h = absurd (omega arith)
index_listed x (y ∷ ys) h = go (eqb y x) refl (λ k. index_listed x ys k)
  where
    go : (b : Bool) → eqb y x ≡ b → (index_in x ys < length ys → listed x ys ≡ true) → listed x (y ∷ ys) ≡ true
    go true q r = rw q
    go false q r = let z : suc (index_in x ys) < suc (length ys) = rw q at h in rw q (r (omega arith))

pub index_at : (x : ℕ) (xs : List ℕ) → index_in x xs < length xs → get_or xs (index_in x xs) 0 ≡ x
unfolding index_in
index_at x [] h = absurd (omega arith)
index_at x (y ∷ ys) h = go (eqb y x) refl (λ k. index_at x ys k)
  where
    go : (b : Bool) → eqb y x ≡ b → (index_in x ys < length ys → get_or ys (index_in x ys) 0 ≡ x) → get_or (y ∷ ys) (index_in x (y ∷ ys)) 0 ≡ x
    go true q r = rw q (eqb-true y x q)
    go false q r = let z : suc (index_in x ys) < suc (length ys) = rw q at h in rw q (r (omega arith))

-- any other code
pub other_code : (code : ℕ) → (code ≡ avvb → ⊥) → (code ≡ avab → ⊥) → (code ≡ mvbr → ⊥) → (code ≡ mabr → ⊥) → (code ≡ vfps → ⊥) → (code ≡ tvsz → ⊥)
    → index_in code feature_codes ≡ 6
unfolding index_in
other_code code a b c d e f =
    rw (ne_eqb avvb code (λ q. a (sym q)), ne_eqb avab code (λ q. b (sym q)), ne_eqb mvbr code (λ q. c (sym q)), ne_eqb mabr code (λ q. d (sym q)), ne_eqb vfps code (λ q. e (sym q)), ne_eqb tvsz code (λ q. f (sym q)))
