-- Whether a number occurs twice, each being looked for among those before it: by induction, with those that were met before.
-- Assumes nothing.
use Prim.Native.Nat.{ℕ, suc, ◌+◌, ◌≤◌, ◌<◌}
use mathlib.Core.Path.{◌≡◌, refl, sym, ap, ◌∙◌}
use mathlib.Core.List.{List, [], ◌∷◌, ◌++◌}
use mathlib.Core.Bool.{Bool, true, false, cond, ◌||◌}
use lib.ListN.{length, get_or, set, take, drop, length-take, drop_of_length-le}
use lib.Seq.{drop-cons, get_or-take, take-suc-set}
use lib.Dec.{eqb}
use native.Mathlib.Omega.{arith}
use native.Mathlib.Decide.{ℕ_discrete}
use borrow.Author.Tests.{eq-eqb, ne_eqb}
use Rattle.words.specs.Words.{listed}
use Rattle.movie.specs.Tracks.{repeats}

-- one of l is among xs, or among those before it in l
abbrev pub again : List ℕ → List ℕ → Bool
again xs [] = false
again xs (y ∷ l) = listed y xs || again (xs ++ y ∷ []) l

-- one of l is among xs
abbrev meets : List ℕ → List ℕ → Bool
meets xs [] = false
meets xs (y ∷ l) = listed y xs || meets xs l

meets_none : (l : List ℕ) → meets ([]) l ≡ false
meets_none [] = refl
meets_none (y ∷ l) = meets_none l

eqb_sym : (a b : ℕ) → eqb a b ≡ eqb b a
eqb_sym a b = elim (ℕ_discrete a b) [
  | yes e ↦ eq-eqb a b e ∙ sym (eq-eqb b a (sym e))
  | no n ↦ ne_eqb a b n ∙ sym (ne_eqb b a (λ e. n (sym e)))
]

listed_last : (z y : ℕ) (xs : List ℕ) → listed z (xs ++ y ∷ []) ≡ (listed z xs || eqb y z)
listed_last z y [] = go (eqb y z)
  where
    go : (b : Bool) → cond b true false ≡ b
    go true = refl
    go false = refl
listed_last z y (x ∷ xs) = go (eqb x z) (listed_last z y xs)
  where
    go : (b : Bool) → listed z (xs ++ y ∷ []) ≡ (listed z xs || eqb y z) → cond b true (listed z (xs ++ y ∷ [])) ≡ (cond b true (listed z xs) || eqb y z)
    go true h = refl
    go false h = h

shuffle : (a e m q : Bool) → ((a || e) || (m || q)) ≡ ((a || m) || cond e true q)
shuffle true e m q = refl
shuffle false true true q = refl
shuffle false true false q = refl
shuffle false false m q = refl

meets_last : (y : ℕ) (xs l : List ℕ) → meets (xs ++ y ∷ []) l ≡ (meets xs l || listed y l)
meets_last y xs [] = refl
meets_last y xs (z ∷ l) =
    rw (listed_last z y xs, meets_last y xs l, eqb_sym y z) (shuffle (listed z xs) (eqb z y) (meets xs l) (listed y l))

regroup : (a m q r : Bool) → (a || ((m || q) || r)) ≡ ((a || m) || (q || r))
regroup true m q r = refl
regroup false true q r = refl
regroup false false q r = refl

again_is : (xs l : List ℕ) → again xs l ≡ (meets xs l || repeats l)
again_is xs [] = refl
again_is xs (y ∷ l) = rw (again_is (xs ++ y ∷ []) l, meets_last y xs l) (regroup (listed y xs) (meets xs l) (listed y l) (repeats l))

-- where none was met before
pub again_none : (l : List ℕ) → again ([]) l ≡ repeats l
again_none l = again_is ([]) l ∙ ap (λ b. b || repeats l) (meets_none l)

-- ---- a search through the first n of some numbers, from the one at i on

module _ (x i n : ℕ) (l : List ℕ) (h : i < n) (g : n ≤ length l) where
  at : drop i (take n l) ≡ get_or l i 0 ∷ drop (suc i) (take n l)
  at = drop-cons (take n l) i 0 (omega (arith, length-take n l)) ∙ ap (λ (y : ℕ). y ∷ drop (suc i) (take n l)) (get_or-take n l i 0 h)

  pub listed_here : get_or l i 0 ≡ x → listed x (drop i (take n l)) ≡ true
  listed_here e = rw (at, eq-eqb (get_or l i 0) x e)

  pub listed_on : (get_or l i 0 ≡ x → ⊥) → listed x (drop i (take n l)) ≡ listed x (drop (i + 1) (take n l))
  listed_on e = let k : i + 1 ≡ suc i = omega arith in rw (at, ne_eqb (get_or l i 0) x e, k)

pub listed_past : (x i n : ℕ) (l : List ℕ) → n ≤ i → listed x (drop i (take n l)) ≡ false
listed_past x i n l h = rw (drop_of_length-le (take n l) {i = i} (omega (arith, length-take n l)))

-- ---- one more that is kept

pub kept_more : (l : List ℕ) (i a : ℕ) → i < length l → take (i + 1) (set l i a) ≡ take i l ++ (a ∷ [])
kept_more l i a h = let k : i + 1 ≡ suc i = omega arith in rw k (take-suc-set l i a h)
