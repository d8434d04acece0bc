-- Numbers copied from one list to another: a turn of each loop.
-- Assumes nothing.
use Prim.Native.Nat.{ℕ, suc, ◌+◌, ◌≤◌, ◌<◌}
use mathlib.Core.Path.{◌≡◌, refl, sym, ap, ◌∙◌}
use mathlib.Core.List.{List, [], ◌∷◌, ◌++◌, map, map-id}
use native.Mathlib.Omega.{arith}
use lib.ListN.{length, get_or, set, take, drop, length-drop}
use lib.Seq.{sets, take-suc, take-suc-set, take-length, drop-cons, drop-length, get_or-drop}

map_join : (f : ℕ → ℕ) (a b : List ℕ) → map f (a ++ b) ≡ map f a ++ map f b
map_join f [] b = refl
map_join f (x ∷ a) b = ap (λ (l : List ℕ). f x ∷ l) (map_join f a b)

-- one more number that is taken
module _ (f : ℕ → ℕ) (ns : List ℕ) (from : ℕ) where
  pub copy_turn : (room : List ℕ) (i x : ℕ) → i < length room → from + i < length ns → x ≡ f (get_or ns (from + i) 0) → take i room ≡ map f (take i (drop from ns))
      → take (i + 1) (set room i x) ≡ map f (take (i + 1) (drop from ns))
  copy_turn room i x h g e q =
      let k : i + 1 ≡ suc i = omega arith in
      let t = take-suc (drop from ns) i 0 (omega (arith, length-drop from ns)) in
      rw (k, take-suc-set room i x h, q, e, t, map_join f (take i (drop from ns)) (get_or (drop from ns) i 0 ∷ []), get_or-drop from ns i 0)

  -- all of them
  pub copy_all : (room : List ℕ) (i n : ℕ) → length room ≤ i → i ≤ length room → n ≡ length room → take i room ≡ map f (take i (drop from ns)) → room ≡ map f (take n (drop from ns))
  copy_all room i n h g e q =
      let k : i ≡ length room = omega arith in
      let z = rw k at q in
      rw e (sym (take-length room) ∙ z)

pub same_all : (room l : List ℕ) → room ≡ map (λ (x : ℕ). x) l → room ≡ l
same_all room l e = e ∙ map-id l

-- the first i values are stored from an index on: the rest of them make what all of them make
pub put_turn : (values places new : List ℕ) (at i : ℕ) → i < length values → sets new (at + i) (drop i values) ≡ sets places at values
    → sets (set new (at + i) (get_or values i 0)) (at + (i + 1)) (drop (i + 1) values) ≡ sets places at values
put_turn values places new at i h q =
    let k : i + 1 ≡ suc i = omega arith in
    let j : at + suc i ≡ suc (at + i) = omega arith in
    rw (k, j) (rw (drop-cons values i 0 h) at q)

pub put_all : (values places new : List ℕ) (at i : ℕ) → length values ≤ i → i ≤ length values → sets new (at + i) (drop i values) ≡ sets places at values → new ≡ sets places at values
put_all values places new at i h g q = let k : i ≡ length values = omega arith in rw (k, drop-length values) at q
