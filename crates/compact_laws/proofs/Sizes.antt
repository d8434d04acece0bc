-- The size of an atom depends on its header and on how much remains; the header is part of the atom.
-- Assumes nothing.
use Prim.Native.Nat.{ℕ, ◌+◌, ◌≤◌, ◌<◌}
use mathlib.Core.Path.{◌≡◌, refl, sym, ap, ◌∙◌}
use mathlib.Core.List.{List}
use mathlib.Core.Bool.{Bool, true, false, cond, ◌&&◌}
use native.Mathlib.Omega.{arith}
use lib.ListN.{length, take}
use lib.Dec.{eqb, ltb, leb}
use borrow.Author.Tests.{eqb-true, leb-true}
use Rattle.bigendian.specs.BigEndian.{be_at, u32_at, u64_at}
use Rattle.bigendian.proofs.Laws.{be_at_take}
use Rattle.lists.proofs.Booleans.{and_left}
use Rattle.atoms.specs.Kinds.{file}
use Rattle.atoms.specs.Pieces.{fitting}
use Rattle.atoms.specs.Atoms.{header_of, size_inside, size_top, size_in}

-- ---- equal headers and lengths, equal sizes

module _ (x y : List ℕ) (l : length x ≡ length y) (u : u32_at x 0 ≡ u32_at y 0) where
  top_same : (eqb (u32_at y 0) 1 ≡ true → u64_at x 8 ≡ u64_at y 8) → size_top x ≡ size_top y
  unfolding size_top fitting
  top_same v = rw (l, u) (go (eqb (u32_at y 0) 1) refl)
    where
      go : (b : Bool) → eqb (u32_at y 0) 1 ≡ b
          → cond (ltb (length y) 8) 0 (cond (eqb (u32_at y 0) 0) (length y) (cond b (cond (ltb (length y) 16) 0 (cond (leb 16 (u64_at x 8) && leb (u64_at x 8) (length y)) (u64_at x 8) 0)) (cond (leb 8 (u32_at y 0) && leb (u32_at y 0) (length y)) (u32_at y 0) 0)))
          ≡ cond (ltb (length y) 8) 0 (cond (eqb (u32_at y 0) 0) (length y) (cond b (cond (ltb (length y) 16) 0 (cond (leb 16 (u64_at y 8) && leb (u64_at y 8) (length y)) (u64_at y 8) 0)) (cond (leb 8 (u32_at y 0) && leb (u32_at y 0) (length y)) (u32_at y 0) 0)))
      go true e = rw (v e)
      go false e = refl

  inside_same : size_inside x ≡ size_inside y
  unfolding size_inside fitting
  inside_same = rw (l, u)

  in_same : (p : ℕ) → (eqb (u32_at y 0) 1 ≡ true → u64_at x 8 ≡ u64_at y 8) → size_in p x ≡ size_in p y
  unfolding size_in
  in_same p v = rw (top_same v, inside_same)

header_some : (a : List ℕ) → 8 ≤ header_of a
unfolding header_of
header_some a = go (eqb (u32_at a 0) 1)
  where
    go : (b : Bool) → 8 ≤ cond b 16 8
    go true = omega arith
    go false = omega arith

number_same : (n at h : ℕ) (x y : List ℕ) → at + n ≤ h → take h x ≡ take h y → be_at n x at ≡ be_at n y at
number_same n at h x y g e = sym (be_at_take n h x at g) ∙ ap (λ l. be_at n l at) e ∙ be_at_take n h y at g

pub size_same : (p : ℕ) (x y : List ℕ) → length x ≡ length y → take (header_of y) x ≡ take (header_of y) y → size_in p x ≡ size_in p y
unfolding header_of
size_same p x y l e =
    in_same x y l (number_same 4 0 (header_of y) x y (omega (arith, header_some y)) e) p
    (λ q. number_same 8 8 16 x y (omega arith) (rw q at e))

-- ---- an atom has its whole header

fitting_least : (h z : ℕ) (s : List ℕ) → 0 < fitting h z s → h ≤ fitting h z s
unfolding fitting
fitting_least h z s = go (leb h z && leb z (length s)) refl
  where
    go : (b : Bool) → (leb h z && leb z (length s)) ≡ b → 0 < cond b z 0 → h ≤ cond b z 0
    go true e g = leb-true h z (and_left (leb h z) _ e)
    go false e g = absurd (omega arith)

cond_none : (b : Bool) (m z : ℕ) → (0 < z → m ≤ z) → 0 < cond b 0 z → m ≤ cond b 0 z
cond_none true m z h g = absurd (omega arith)
cond_none false m z h g = h g

never_one : (s : List ℕ) → 0 < fitting 8 1 s → ⊥
unfolding fitting
never_one s h = omega arith

wide_least : (p : ℕ) (s : List ℕ) → u32_at s 0 ≡ 1 → 0 < size_in p s → 16 ≤ size_in p s
unfolding size_in size_top size_inside
wide_least p s e = rw e (go (eqb p file))
  where
    go : (b : Bool) → 0 < cond b (cond (ltb (length s) 8) 0 (cond (ltb (length s) 16) 0 (fitting 16 (u64_at s 8) s))) (cond (ltb (length s) 8) 0 (fitting 8 1 s))
        → 16 ≤ cond b (cond (ltb (length s) 8) 0 (cond (ltb (length s) 16) 0 (fitting 16 (u64_at s 8) s))) (cond (ltb (length s) 8) 0 (fitting 8 1 s))
    go true = cond_none (ltb (length s) 8) 16 _ (cond_none (ltb (length s) 16) 16 _ (fitting_least 16 (u64_at s 8) s))
    go false = cond_none (ltb (length s) 8) 16 _ (λ h. absurd (never_one s h))

pub header_fits : (p : ℕ) (s : List ℕ) (z : ℕ) → z ≡ size_in p s → 8 ≤ z → header_of s ≤ z
unfolding header_of
header_fits p s z e h = go (eqb (u32_at s 0) 1) refl
  where
    go : (b : Bool) → eqb (u32_at s 0) 1 ≡ b → cond b 16 8 ≤ z
    go true q = omega (arith, wide_least p s (eqb-true (u32_at s 0) 1 q) (omega arith))
    go false q = h

pub header_same : (s : List ℕ) (z : ℕ) → 4 ≤ z → header_of (take z s) ≡ header_of s
unfolding header_of
header_same s z h = rw (be_at_take 4 z s 0 h)
