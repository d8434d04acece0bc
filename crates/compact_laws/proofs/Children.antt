-- The children of a body with its tables closed up, kind by kind.
-- Assumes nothing.
use Prim.Native.Nat.{ℕ, zero, suc, ◌+◌, ◌≤◌, ◌<◌}
use mathlib.Core.Path.{◌≡◌, refl, sym, ap, ◌∙◌}
use mathlib.Core.List.{List, [], ◌∷◌, ◌++◌, map}
use mathlib.Core.Bool.{Bool, true, false, cond}
use native.Mathlib.Omega.{arith}
use lib.ListN.{length, take, get_or, length-map, get_or-map}
use lib.Seq.{take-append-le, take_at, drop_at, length-take-le}
use lib.Dec.{eqb}
use borrow.Author.Tests.{eqb-true}
use Rattle.bigendian.specs.BigEndian.{be_at, u32_at}
use Rattle.bigendian.proofs.Laws.{be_at_take}
use Rattle.atoms.specs.Kinds.{stbl, prfl, container}
use Rattle.atoms.specs.Atoms.{kind_of, header_of, body_of, atoms, of_kind, count_in, child_in, body_in}
use Rattle.atoms.specs.Tree.{all}
use Rattle.atoms.proofs.Into.{all_kind}
use Rattle.structure.specs.Profile.{first_before}
use Rattle.compact_tree.specs.Tree.{compact_body}
use Rattle.compact_tree.proofs.Putting.{compact_atom}
use Rattle.compact_laws.proofs.Rewritten.{Each}
use Rattle.compact_laws.proofs.Bodies.{Headed, Sound, body_atoms, atoms_headed}

-- ---- an atom closed up is of its kind, has its header, and its body closed up

module _ (n p : ℕ) where
  header_some : (a : List ℕ) → 8 ≤ header_of a
  unfolding header_of
  header_some a = go (eqb (u32_at a 0) 1)
    where
      go : (b : Bool) → 8 ≤ cond b 16 8
      go true = omega arith
      go false = omega arith

  same_front : (k at : ℕ) (a r : List ℕ) → at + k ≤ 8 → header_of a ≤ length a → be_at k (take (header_of a) a ++ r) at ≡ be_at k a at
  same_front k at a r h g =
      let x = take (header_of a) a in
      let l = length-take-le (header_of a) a g in
      let s = header_some a in
      sym (be_at_take k (header_of a) (x ++ r) at (omega arith)) ∙ ap (λ y. be_at k y at) (take-append-le (header_of a) x r (omega (arith, l)))
      ∙ be_at_take k (header_of a) x at (omega arith) ∙ be_at_take k (header_of a) a at (omega arith)

  pub kind_kept : (a : List ℕ) → header_of a ≤ length a → kind_of (compact_atom n p a) ≡ kind_of a
  kind_kept a g = go (container p (kind_of a))
    where
      go : (b : Bool) → kind_of (cond b (take (header_of a) a ++ compact_body n (kind_of a) (body_of a)) a) ≡ kind_of a
      go true = same_front 4 4 a _ (omega arith) g
      go false = refl

  header_by : (x a : List ℕ) → u32_at x 0 ≡ u32_at a 0 → header_of x ≡ header_of a
  unfolding header_of
  header_by x a e = rw e

  joined_body : (a y : List ℕ) → header_of a ≤ length a → body_of (take (header_of a) a ++ y) ≡ y
  unfolding body_of
  joined_body a y g =
      let x = take (header_of a) a in
      rw (header_by (x ++ y) a (same_front 4 0 a y (omega arith) g)) (drop_at x y (header_of a) (length-take-le (header_of a) a g))

  pub taken : (a : List ℕ) → container p (kind_of a) ≡ true → compact_atom n p a ≡ take (header_of a) a ++ compact_body n (kind_of a) (body_of a)
  taken a c = ap (λ (b : Bool). cond b (take (header_of a) a ++ compact_body n (kind_of a) (body_of a)) a) c

  -- an atom with the header of a and the body y
  pub joined_atom : (a y : List ℕ) → header_of a ≤ length a → container p (kind_of a) ≡ true → compact_atom n p (take (header_of a) a ++ y) ≡ take (header_of a) a ++ compact_body n (kind_of a) y
  joined_atom a y g c =
      let x = take (header_of a) a in
      let k : kind_of (x ++ y) ≡ kind_of a = same_front 4 4 a y (omega arith) g in
      let h : header_of (x ++ y) ≡ header_of a = header_by (x ++ y) a (same_front 4 0 a y (omega arith) g) in
      let l = length-take-le (header_of a) a g in
      ap (λ (b : Bool). cond b (take (header_of (x ++ y)) (x ++ y) ++ compact_body n (kind_of (x ++ y)) (body_of (x ++ y))) (x ++ y)) (ap (container p) k ∙ c)
      ∙ ap (λ (i : ℕ). take i (x ++ y) ++ compact_body n (kind_of (x ++ y)) (body_of (x ++ y))) h
      ∙ ap (λ z. z ++ compact_body n (kind_of (x ++ y)) (body_of (x ++ y))) (take_at x y (header_of a) l)
      ∙ ap (λ (i : ℕ). x ++ compact_body n i (body_of (x ++ y))) k
      ∙ ap (λ z. x ++ compact_body n (kind_of a) z) (joined_body a y g)

  pub body_kept : (a : List ℕ) → header_of a ≤ length a → container p (kind_of a) ≡ true → body_of (compact_atom n p a) ≡ compact_body n (kind_of a) (body_of a)
  body_kept a g c = ap body_of (taken c) ∙ joined_body a (compact_body n (kind_of a) (body_of a)) g
    where
      taken : container p (kind_of a) ≡ true → compact_atom n p a ≡ take (header_of a) a ++ compact_body n (kind_of a) (body_of a)
      taken c = ap (λ (b : Bool). cond b (take (header_of a) a ++ compact_body n (kind_of a) (body_of a)) a) c

  pub leaf_kept : (a : List ℕ) → container p (kind_of a) ≡ false → compact_atom n p a ≡ a
  leaf_kept a c = rw c

  -- those of a kind
  kinds_map : (k : ℕ) (l : List (List ℕ)) → Each Headed l → of_kind k (map (compact_atom n p) l) ≡ map (compact_atom n p) (of_kind k l)
  unfolding of_kind
  kinds_map k [] h = refl
  kinds_map k (a ∷ l) h = rw (kind_kept a h.0.0) (go (eqb (kind_of a) k) (kinds_map k l h.1))
    where
      go : (b : Bool) → of_kind k (map (compact_atom n p) l) ≡ map (compact_atom n p) (of_kind k l)
          → cond b (compact_atom n p a ∷ of_kind k (map (compact_atom n p) l)) (of_kind k (map (compact_atom n p) l)) ≡ map (compact_atom n p) (cond b (a ∷ of_kind k l) (of_kind k l))
      go true ih = ap (λ x. compact_atom n p a ∷ x) ih
      go false ih = ih

  -- leaves of a kind are the same
  kinds_leaf : (k : ℕ) → container p k ≡ false → (l : List (List ℕ)) → map (compact_atom n p) (of_kind k l) ≡ of_kind k l
  unfolding of_kind
  kinds_leaf k c [] = refl
  kinds_leaf k c (a ∷ l) = go (eqb (kind_of a) k) refl (kinds_leaf k c l)
    where
      go : (b : Bool) → eqb (kind_of a) k ≡ b → map (compact_atom n p) (of_kind k l) ≡ of_kind k l → map (compact_atom n p) (cond b (a ∷ of_kind k l) (of_kind k l)) ≡ cond b (a ∷ of_kind k l) (of_kind k l)
      go true e ih = let q : container p (kind_of a) ≡ false = ap (container p) (eqb-true (kind_of a) k e) ∙ c in rw (leaf_kept a q, ih) refl
      go false e ih = ih

  -- the first prfl before an atom of kind k
  pub before_kept : (k : ℕ) → container p prfl ≡ false → (l : List (List ℕ)) → Each Headed l → first_before k (map (compact_atom n p) l) ≡ first_before k l
  unfolding first_before
  before_kept k c [] h = refl
  before_kept k c (a ∷ l) h = rw (kind_kept a h.0.0) (go (eqb (kind_of a) k) (eqb (kind_of a) prfl) refl (before_kept k c l h.1))
    where
      go : (b d : Bool) → eqb (kind_of a) prfl ≡ d → first_before k (map (compact_atom n p) l) ≡ first_before k l
          → cond b ([]) (cond d (compact_atom n p a) (first_before k (map (compact_atom n p) l))) ≡ cond b ([]) (cond d a (first_before k l))
      go true d e ih = refl
      go false true e ih = leaf_kept a (ap (container p) (eqb-true (kind_of a) prfl e) ∙ c)
      go false false e ih = ih

all_true : (l : List (List ℕ)) → all (λ a. true) l ≡ true
unfolding all
all_true [] = refl
all_true (a ∷ l) = all_true l

-- each of a kind, too
pub kind_headed : (k : ℕ) (l : List (List ℕ)) → Each Headed l → (i : ℕ) → i < length (of_kind k l) → Headed (get_or (of_kind k l) i [])
unfolding of_kind
kind_headed k [] h i g = absurd (omega arith)
kind_headed k (a ∷ l) h i g = go (eqb (kind_of a) k) i g (kind_headed k l h.1)
  where
    go : (b : Bool) (i : ℕ) → i < length (cond b (a ∷ of_kind k l) (of_kind k l)) → ((i : ℕ) → i < length (of_kind k l) → Headed (get_or (of_kind k l) i []))
        → Headed (get_or (cond b (a ∷ of_kind k l) (of_kind k l)) i [])
    go true zero g r = h.0
    go true (suc i) g r = r i (omega arith)
    go false i g r = r i g

nothing_kept : (n p : ℕ) → compact_atom n p [] ≡ []
unfolding container be_at
nothing_kept n p = refl

module _ (wide : Bool) (n p : ℕ) (s : List ℕ) (d : Sound wide (suc n) p s) (e : eqb p stbl ≡ false) where
  all_kinds : (k : ℕ) → of_kind k (atoms p (compact_body (suc n) p s)) ≡ map (compact_atom n p) (of_kind k (atoms p s))
  all_kinds k = ap (of_kind k) (body_atoms wide n p s d e) ∙ kinds_map n p k (atoms p s) (atoms_headed p s d.low)

  pub count_same : (k : ℕ) → count_in p k (compact_body (suc n) p s) ≡ count_in p k s
  count_same k = ap length (all_kinds k) ∙ length-map (of_kind k (atoms p s)) (compact_atom n p)

  pub leaf_same : (k i : ℕ) → container p k ≡ false → child_in p k i (compact_body (suc n) p s) ≡ child_in p k i s
  leaf_same k i c = ap (λ l. get_or l i []) (all_kinds k ∙ kinds_leaf n p k c (atoms p s))

  pub child_map : (k i : ℕ) → child_in p k i (compact_body (suc n) p s) ≡ compact_atom n p (child_in p k i s)
  child_map k i =
      ap (λ l. get_or l i []) (all_kinds k) ∙ ap (λ x. get_or (map (compact_atom n p) (of_kind k (atoms p s))) i x) (sym (nothing_kept n p))
      ∙ get_or-map (compact_atom n p) (of_kind k (atoms p s)) i []

  -- of a kind that is a container: the body closed up
  pub body_same : (k i : ℕ) → container p k ≡ true → i < count_in p k s → body_in p k i (compact_body (suc n) p s) ≡ compact_body n k (body_in p k i s)
  body_same k i c h =
      let r = (all_kind (λ a. true) k (atoms p s) (all_true (atoms p s)) i h).1 in
      let g = kind_headed k (atoms p s) (atoms_headed p s d.low) i h in
      ap body_of (child_map k i)
      ∙ body_kept n p (child_in p k i s) g.0 (ap (container p) r ∙ c)
      ∙ ap (λ (j : ℕ). compact_body n j (body_in p k i s)) r
