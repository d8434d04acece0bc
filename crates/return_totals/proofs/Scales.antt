-- Scales with their units in two arrays, and the list of them: a search, and units more for one of them.
-- Assumes nothing.
use Prim.Native.Nat.{ℕ, zero, suc, ◌+◌, ◌≤◌, ◌<◌, min}
use mathlib.Core.Path.{◌≡◌, refl, sym, ap, ◌∙◌}
use mathlib.Core.Bool.{Bool, true, false, cond, not}
use mathlib.Core.List.{List, [], ◌∷◌, ◌++◌, map}
use native.Mathlib.Omega.{arith}
use lib.ListN.{length, get_or, set, take, drop, length-take, length-set, length-append, drop_of_length-le}
use lib.Seq.{drop-cons, get_or-take, take-suc-set}
use lib.Dec.{eqb, ltb}
use borrow.Author.Tests.{ltb-true, ltb-false}
use Rattle.std.specs.Prelude.{◌==◌, Some, None, position}
use Rattle.std.specs.List.{position_or_len}
use Rattle.return_totals.specs.Returns.{Scale, with_units, scales_from}
use Rattle.return_totals.specs.Following.{place_of, met_in, units_in}

-- ---- a search through the first n of some numbers, from the one at i on

pub taken_at : (i n : ℕ) (l : List ℕ) → i < n → n ≤ length l → drop i (take n l) ≡ get_or l i 0 ∷ drop (suc i) (take n l)
taken_at i n l h g = drop-cons (take n l) i 0 (omega (arith, length-take n l)) ∙ ap (λ (y : ℕ). y ∷ drop (suc i) (take n l)) (get_or-take n l i 0 h)

-- the search by `position`
place_prefix : (k : ℕ) (l : List ℕ) → place_of k l ≡ position_or_len (λ x. x == k) l
place_prefix k [] = refl
place_prefix k (x ∷ l) = go (eqb x k) (place_prefix k l)
  where
    go : (b : Bool) → place_of k l ≡ position_or_len (λ x. x == k) l → cond b 0 (suc (place_of k l)) ≡ cond (not b) (1 + position_or_len (λ x. x == k) l) 0
    go true h = refl
    go false h = omega (arith, h)

pub place_found : (k i : ℕ) (l : List ℕ) → position (λ x. x == k) l ≡ Some i → (i ≡ place_of k l) × (i < length l)
place_found k i l e = go (ltb (place_of k l) (length l)) refl (rw (← place_prefix k l) at e)
  where
    go : (b : Bool) → ltb (place_of k l) (length l) ≡ b → cond b (Some (place_of k l)) None ≡ Some i → (i ≡ place_of k l) × (i < length l)
    go true d z = let w : place_of k l ≡ i = cc in (sym w, omega (arith, ltb-true (place_of k l) (length l) d))
    go false d z = absurd (cc)

pub place_none : (k : ℕ) (l : List ℕ) → position (λ x. x == k) l ≡ None → length l ≤ place_of k l
place_none k l e = go (ltb (place_of k l) (length l)) refl (rw (← place_prefix k l) at e)
  where
    go : (b : Bool) → ltb (place_of k l) (length l) ≡ b → cond b (Some (place_of k l)) None ≡ None → length l ≤ place_of k l
    go true d z = absurd (cc)
    go false d z = ltb-false (place_of k l) (length l) d

pub place_most : (k : ℕ) (l : List ℕ) → place_of k l ≤ length l
place_most k [] = omega arith
place_most k (x ∷ l) = go (eqb x k) (place_most k l)
  where
    go : (b : Bool) → place_of k l ≤ length l → cond b 0 (suc (place_of k l)) ≤ suc (length l)
    go true h = omega arith
    go false h = omega arith

-- ---- two lists of one length, and the scales of them

pub from_met : (ks us : List ℕ) → length ks ≡ length us → met_in (scales_from ks us) ≡ ks
from_met [] us e = refl
from_met (k ∷ ks) [] e = absurd (omega arith)
from_met (k ∷ ks) (u ∷ us) e = ap (λ l. k ∷ l) (from_met ks us (omega arith))

pub from_units : (ks us : List ℕ) → length ks ≡ length us → units_in (scales_from ks us) ≡ us
from_units [] [] e = refl
from_units [] (u ∷ us) e = absurd (omega arith)
from_units (k ∷ ks) [] e = absurd (omega arith)
from_units (k ∷ ks) (u ∷ us) e = ap (λ l. u ∷ l) (from_units ks us (omega arith))

pub from_length : (ks us : List ℕ) → length ks ≡ length us → length (scales_from ks us) ≡ length ks
from_length [] us e = refl
from_length (k ∷ ks) [] e = absurd (omega arith)
from_length (k ∷ ks) (u ∷ us) e = ap suc (from_length ks us (omega arith))

pub from_most : (ks us : List ℕ) → length (scales_from ks us) ≤ length ks
from_most [] us = omega arith
from_most (k ∷ ks) [] = omega arith
from_most (k ∷ ks) (u ∷ us) = omega (arith, from_most ks us)

-- which scales are met with units more does not go by their totals
abbrev meet : ℕ → List ℕ → List ℕ
meet k [] = k ∷ []
meet k (x ∷ xs) = cond (eqb x k) (x ∷ xs) (x ∷ meet k xs)

units_meet : (k u : ℕ) (l : List Scale) → met_in (with_units k u l) ≡ meet k (met_in l)
units_meet k u [] = refl
units_meet k u (x ∷ l) = go (eqb x.scale k) (units_meet k u l)
  where
    go : (b : Bool) → met_in (with_units k u l) ≡ meet k (met_in l)
        → met_in (cond b (record { scale = x.scale; total = x.total + u } ∷ l) (x ∷ with_units k u l)) ≡ cond b (x.scale ∷ met_in l) (x.scale ∷ meet k (met_in l))
    go true h = refl
    go false h = ap (λ (m : List ℕ). x.scale ∷ m) h

pub same_met : (k u : ℕ) (l m : List Scale) → met_in l ≡ met_in m → met_in (with_units k u l) ≡ met_in (with_units k u m)
same_met k u l m e = units_meet k u l ∙ ap (meet k) e ∙ sym (units_meet k u m)

pub met_length : (l : List Scale) → length (met_in l) ≡ length l
met_length [] = refl
met_length (x ∷ l) = ap suc (met_length l)

pub units_longer : (k u : ℕ) (l : List Scale) → length l ≤ length (with_units k u l)
units_longer k u [] = omega arith
units_longer k u (x ∷ l) = go (eqb x.scale k) (units_longer k u l)
  where
    go : (b : Bool) → length l ≤ length (with_units k u l) → suc (length l) ≤ length (cond b (record { scale = x.scale; total = x.total + u } ∷ l) (x ∷ with_units k u l))
    go true h = omega arith
    go false h = omega arith

module _ (k u : ℕ) where
  -- a scale that is there
  pub units_found : (ks us : List ℕ) → length ks ≡ length us → place_of k ks < length ks
      → with_units k u (scales_from ks us) ≡ scales_from ks (set us (place_of k ks) (get_or us (place_of k ks) 0 + u))
  units_found [] us e h = absurd (omega arith)
  units_found (x ∷ ks) [] e h = absurd (omega arith)
  units_found (x ∷ ks) (v ∷ us) e h = go (eqb x k) h (λ g. units_found ks us (omega arith) g)
    where
      go : (b : Bool) → cond b 0 (suc (place_of k ks)) < suc (length ks) → (place_of k ks < length ks → with_units k u (scales_from ks us) ≡ scales_from ks (set us (place_of k ks) (get_or us (place_of k ks) 0 + u)))
          → cond b (record { scale = x; total = v + u } ∷ scales_from ks us) (record { scale = x; total = v } ∷ with_units k u (scales_from ks us))
          ≡ scales_from (x ∷ ks) (set (v ∷ us) (cond b 0 (suc (place_of k ks))) (get_or (v ∷ us) (cond b 0 (suc (place_of k ks))) 0 + u))
      go true h f = refl
      go false h f = ap (λ (l : List Scale). record { scale = x; total = v } ∷ l) (f (omega arith))

  -- one that is not
  pub units_new : (ks us : List ℕ) → length ks ≡ length us → length ks ≤ place_of k ks → with_units k u (scales_from ks us) ≡ scales_from (ks ++ k ∷ []) (us ++ u ∷ [])
  units_new [] [] e h = refl
  units_new [] (v ∷ us) e h = absurd (omega arith)
  units_new (x ∷ ks) [] e h = absurd (omega arith)
  units_new (x ∷ ks) (v ∷ us) e h = go (eqb x k) h (λ g. units_new ks us (omega arith) g)
    where
      go : (b : Bool) → suc (length ks) ≤ cond b 0 (suc (place_of k ks)) → (length ks ≤ place_of k ks → with_units k u (scales_from ks us) ≡ scales_from (ks ++ k ∷ []) (us ++ u ∷ []))
          → cond b (record { scale = x; total = v + u } ∷ scales_from ks us) (record { scale = x; total = v } ∷ with_units k u (scales_from ks us))
          ≡ record { scale = x; total = v } ∷ scales_from (ks ++ k ∷ []) (us ++ u ∷ [])
      go true h f = absurd (omega arith)
      go false h f = ap (λ (l : List Scale). record { scale = x; total = v } ∷ l) (f (omega arith))

-- ---- stores

pub take_set : (n i x : ℕ) (l : List ℕ) → take n (set l i x) ≡ set (take n l) i x
take_set zero i x l = refl
take_set (suc n) i x [] = refl
take_set (suc n) zero x (y ∷ l) = refl
take_set (suc n) (suc i) x (y ∷ l) = ap (λ (m : List ℕ). y ∷ m) (take_set n i x l)
