-- Where the first moov of a file stands, atom by atom: the bytes there are that atom.
-- Assumes nothing.
use Prim.Native.Nat.{ℕ, zero, suc, ◌+◌, ◌≤◌, ◌<◌}
use mathlib.Core.Path.{◌≡◌, refl, sym, ap, ◌∙◌}
use mathlib.Core.List.{List, [], ◌∷◌}
use mathlib.Core.Bool.{Bool, true, false}
use mathlib.Core.Logic.{⊎_elim}
use lib.ListN.{length, take, drop, length-drop}
use lib.Seq.{drop-drop, length-take-le}
use lib.Dec.{eqb}
use borrow.Author.Tests.{eqb-true, eqb-false, eq-eqb, ne_eqb}
use native.Mathlib.Omega.{arith}
use native.Mathlib.Decide.{dec_lt}
use Rattle.bigendian.specs.BigEndian.{u32_at}
use Rattle.bigendian.proofs.Laws.{be_at_take}
use Rattle.atoms.specs.Kinds.{file, moov}
use Rattle.atoms.specs.Atoms.{kind_of, size_in, atoms, count_in, child_in}
use Rattle.atoms.proofs.Laws.{size_le, atoms_next, kinds_none, kinds_next, child_here, child_next}
use Rattle.top_level.specs.TopLevel.{moov_place, OneMoov}
use Rattle.top_level.proofs.Alone.{size_kept, one-moov}

-- the first moov c of t, at the place m
pub record Stands (t c : List ℕ) (m : ℕ) : Type 0 where
  pub there : take (length c) (drop m t) ≡ c
  pub inside : m + length c ≤ length t
  pub kind : kind_of c ≡ moov
  pub size : length c ≡ size_in file c
  pub whole : 8 ≤ length c

abbrev pub First : List ℕ → Type 0
First t = Stands t (child_in file moov 0 t) (moov_place (atoms file t))

module _ (t : List ℕ) (z : ℕ) (e : z ≡ size_in file t) (h : 8 ≤ z) where
  within : z ≤ length t
  within = omega (arith, size_le file t)

  here : u32_at t 4 ≡ moov → First t
  unfolding moov_place
  here k =
      let l = length-take-le z t within in
      rw (child_here file t z e moov 0 h k refl, atoms_next file t z e h, be_at_take 4 z t 4 h, eq-eqb (u32_at t 4) moov k)
      (record {
        there = ap (λ (n : ℕ). take n t) l;
        inside = omega (arith, l, within);
        kind = be_at_take 4 z t 4 h ∙ k;
        size = l ∙ sym (size_kept t z e h);
        whole = omega (arith, l);
      })

  next : (u32_at t 4 ≡ moov → ⊥) → First (drop z t) → First t
  unfolding moov_place
  next n f =
      let l = length-take-le z t within in
      rw (child_next file t z e moov 0 h n, atoms_next file t z e h, be_at_take 4 z t 4 h, ne_eqb (u32_at t 4) moov n, l)
      (record {
        there = rw (← drop-drop (moov_place (atoms file (drop z t))) z t) f.there;
        inside = omega (arith, f.inside, length-drop z t, within);
        kind = f.kind;
        size = f.size;
        whole = f.whole;
      })

first_by : (n : ℕ) (t : List ℕ) → length t < n → 0 < count_in file moov t → First t
first_by zero t l c = absurd (omega arith)
first_by (suc n) t l c = elim (dec_lt (size_in file t) 8) [
  | yes h ↦ absurd (omega (arith, ap length (kinds_none file t (size_in file t) refl moov h)))
  | no h ↦ go (eqb (u32_at t 4) moov) refl (omega arith) (first_by n (drop (size_in file t) t) (omega (arith, length-drop (size_in file t) t, size_le file t)))
]
  where
    go : (b : Bool) → eqb (u32_at t 4) moov ≡ b → 8 ≤ size_in file t → (0 < count_in file moov (drop (size_in file t) t) → First (drop (size_in file t) t)) → First t
    go true e h f = here t (size_in file t) refl h (eqb-true _ _ e)
    go false e h f =
        let m = eqb-false _ _ e in
        next t (size_in file t) refl h m (f (rw (kinds_next file t (size_in file t) refl moov h m) at c))

pub first_stands : (t : List ℕ) → 0 < count_in file moov t → First t
first_stands t = first_by (suc (length t)) t (omega arith)

-- alone it is one moov atom
pub moov_alone : (t : List ℕ) → 0 < count_in file moov t → OneMoov (child_in file moov 0 t)
moov_alone t h = let f = first_stands t h in one-moov (child_in file moov 0 t) f.size f.whole f.kind
