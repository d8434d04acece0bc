-- An atom of the top level that is cut out of its file has the same size alone: one of size 0 runs to the end of both.
-- Assumes nothing.
use Prim.Native.Nat.{ℕ, ◌≤◌}
use mathlib.Core.Path.{◌≡◌, refl, sym, ap, ◌∙◌}
use mathlib.Core.List.{List, [], ◌∷◌}
use mathlib.Core.Bool.{Bool, true, false, cond, ◌&&◌}
use lib.ListN.{length, take, drop, get_or}
use lib.Seq.{take-length, drop-length, length-take-le}
use lib.Dec.{ltb, leb, eqb}
use borrow.Author.Tests.{ltb-false, leb-true, le-ltb, le-leb, eq-eqb, ne_eqb, eqb-true, eqb-false}
use native.Mathlib.Omega.{arith}
use Rattle.lists.proofs.Booleans.{and_left, and_right}
use Rattle.bigendian.specs.BigEndian.{u32_at, u64_at}
use Rattle.bigendian.proofs.Laws.{be_at_take}
use Rattle.atoms.specs.Kinds.{file, moov}
use Rattle.atoms.specs.Pieces.{pieces_after, total, filled_by, fitting}
use Rattle.atoms.specs.Atoms.{kind_of, size_top, size_in, atoms, filled, of_kind, count_in, child_in}
use Rattle.atoms.proofs.Laws.{atoms_next, kinds_here, fill_next}
use Rattle.top_level.specs.TopLevel.{OneMoov}

-- the first z bytes of t, if they are an atom, have that size alone
Kept : List ℕ → ℕ → Type 0
Kept t z = 8 ≤ z → size_in file (take z t) ≡ z

kept_none : (t : List ℕ) → Kept t 0
unfolding Kept
kept_none t h = absurd (omega arith)

kept_cond : (b : Bool) (t : List ℕ) (x y : ℕ) → (b ≡ true → Kept t x) → (b ≡ false → Kept t y) → Kept t (cond b x y)
kept_cond true t x y f g = f refl
kept_cond false t x y f g = g refl

-- a size that fits
kept_fit : (least z : ℕ) (t : List ℕ) → (least ≤ z → z ≤ length t → size_in file (take z t) ≡ z) → Kept t (fitting least z t)
unfolding fitting Kept
kept_fit least z t f =
    kept_cond (leb least z && leb z (length t)) t z 0
    (λ e h. f (leb-true least z (and_left _ _ e)) (leb-true z (length t) (and_right (leb least z) _ e)))
    (λ e. kept_none t)

kept_whole : (t : List ℕ) → u32_at t 0 ≡ 0 → Kept t (length t)
unfolding Kept size_in size_top
kept_whole t e h = rw (take-length t, le-ltb (length t) 8 h, e)

kept_plain : (t : List ℕ) (z : ℕ) → z ≡ u32_at t 0 → (z ≡ 0 → ⊥) → (z ≡ 1 → ⊥) → 8 ≤ z → z ≤ length t → size_in file (take z t) ≡ z
unfolding size_in size_top fitting
kept_plain t z e m n h l =
    rw (length-take-le z t l, le-ltb z 8 h, be_at_take 4 z t 0 (omega arith), ← e, ne_eqb z 0 m, ne_eqb z 1 n, le-leb 8 z h, le-leb z z (omega arith))

kept_wide : (t : List ℕ) (z : ℕ) → z ≡ u64_at t 8 → u32_at t 0 ≡ 1 → 16 ≤ z → z ≤ length t → size_in file (take z t) ≡ z
unfolding size_in size_top fitting
kept_wide t z e n h l =
    rw (length-take-le z t l, le-ltb z 8 (omega arith), be_at_take 4 z t 0 (omega arith), n, le-ltb z 16 h, be_at_take 8 z t 8 (omega arith), ← e, le-leb 16 z h, le-leb z z (omega arith))

kept_top : (t : List ℕ) → Kept t (size_top t)
unfolding size_top
kept_top t =
    kept_cond (ltb (length t) 8) t _ _ (λ e. kept_none t)
    (λ e. kept_cond (eqb (u32_at t 0) 0) t _ _ (λ f. kept_whole t (eqb-true _ _ f))
    (λ f. kept_cond (eqb (u32_at t 0) 1) t _ _
    (λ g. kept_cond (ltb (length t) 16) t _ _ (λ i. kept_none t) (λ i. kept_fit 16 (u64_at t 8) t (kept_wide t (u64_at t 8) refl (eqb-true _ _ g))))
    (λ g. kept_fit 8 (u32_at t 0) t (kept_plain t (u32_at t 0) refl (eqb-false _ _ f) (eqb-false _ _ g)))))

pub size_kept : (t : List ℕ) (z : ℕ) → z ≡ size_in file t → 8 ≤ z → size_in file (take z t) ≡ z
unfolding Kept size_in
size_kept t z e h = rw e (kept_top t (rw e at h))

-- so it is the only atom of its bytes
nothing : atoms file [] ≡ []
unfolding pieces_after
nothing = refl

nothing_filled : filled file [] ≡ true
unfolding filled_by total pieces_after
nothing_filled = refl

nothing_of : of_kind moov [] ≡ []
unfolding of_kind
nothing_of = refl

module _ (a : List ℕ) (e : length a ≡ size_in file a) (h : 8 ≤ length a) (k : kind_of a ≡ moov) where
  moovs : of_kind moov (atoms file a) ≡ a ∷ []
  moovs = kinds_here file a (length a) e moov h k ∙ rw (take-length a, drop-length a, nothing, nothing_of)

  pub one-moov : OneMoov a
  one-moov =
      record {
        size = sym e;
        single = atoms_next file a (length a) e h ∙ rw (take-length a, drop-length a, nothing);
        kind = k;
        filling = fill_next file a (length a) e h ∙ rw (drop-length a) nothing_filled;
        counted = ap length moovs;
        itself = ap (λ (l : List (List ℕ)). get_or l 0 []) moovs;
      }
