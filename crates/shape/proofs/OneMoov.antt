-- The walk over a file's tree says what rows 4 and 5 ask of the moov: a file has no read leaves of its own, and one moov.
-- Assumes nothing.
use Prim.Native.Nat.{ℕ}
use mathlib.Core.Path.{◌≡◌, refl, sym, ap, ◌∙◌}
use mathlib.Core.List.{List, [], ◌∷◌}
use mathlib.Core.Bool.{Bool, true, false, cond, ◌&&◌}
use lib.ListN.{length, get_or}
use lib.Dec.{eqb}
use borrow.Author.Tests.{eqb-true}
use native.Mathlib.Omega.{arith}
use Rattle.atoms.specs.Kinds.{file, moov, trak, edts, mdia, minf, stbl, dinf, mvhd, tkhd, mdhd, hdlr, dref, elst, stts, ctts, stsc, stsz, stco, co64, stss, stsd, container}
use Rattle.atoms.specs.Atoms.{kind_of, body_of, atoms, of_kind, count_in}
use Rattle.atoms.specs.Tree.{all, everywhere}
use Rattle.atoms.proofs.Laws.{below, everywhere_open}
use Rattle.leaves.specs.declared.Form.{Form}
use Rattle.leaves.specs.declared.Form.TheVariants.{Skipped}
use Rattle.leaves.specs.Leaves.{LeafRule}
use Rattle.leaves.specs.Leaves.{Version, Size}
use Rattle.leaves.specs.Leaves.{form_of, skipped, version_ok, size_ok, leaf_ok, atom_ok, leaves_ok}
use Rattle.presence.specs.Present.{one, present}
use Rattle.tree.specs.declared.Checks.{Checks}
use Rattle.tree.specs.Checks.{tree_checks}
use Rattle.structure.specs.Movie.{moov_of}
use Rattle.shape.specs.MovieRows.{versioned_movie, sized_movie}
use Rattle.atoms.proofs.Into.{everywhere_here}

skip : (b : Bool) {f : Form} → f ≡ Skipped → cond b Skipped f ≡ Skipped
skip true e = refl
skip false e = e

no_form : (wide : Bool) (k : ℕ) → form_of wide file k ≡ Skipped
unfolding form_of
no_form wide k =
    skip (eqb k mvhd) (skip (eqb k tkhd) (skip (eqb k mdhd) (skip (eqb k hdlr) (skip (eqb k elst) (skip (eqb k stts) (skip (eqb k ctts) (skip (eqb k stsc)
    (skip (eqb k stsz) (skip (eqb k stco) (skip (eqb k stss) (go (eqb k co64) wide (skip (eqb k stsd) (skip (eqb k dref) refl)))))))))))))
  where
    go : (b w : Bool) {f : Form} → f ≡ Skipped → cond b (cond w Skipped Skipped) f ≡ Skipped
    go true true e = refl
    go true false e = refl
    go false w e = e

no_leaf : (rule : LeafRule) (wide : Bool) (a : List ℕ) → atom_ok rule wide file a ≡ true
unfolding leaf_ok version_ok size_ok skipped
no_leaf Version wide a = rw (no_form wide (kind_of a))
no_leaf Size wide a = rw (no_form wide (kind_of a))

no_leaves : (rule : LeafRule) (wide : Bool) (l : List (List ℕ)) → all (atom_ok rule wide file) l ≡ true
unfolding all
no_leaves rule wide [] = refl
no_leaves rule wide (a ∷ l) = rw (no_leaf rule wide a) (no_leaves rule wide l)

not_in : (b : Bool) {f : Bool} → f ≡ false → cond b false f ≡ false
not_in true e = refl
not_in false e = e

moov_only : (k : ℕ) → container file k ≡ eqb k moov
unfolding container
moov_only k = go (eqb k moov) (not_in (eqb k trak) (not_in (eqb k edts) (not_in (eqb k mdia) (not_in (eqb k minf) (not_in (eqb k stbl) (not_in (eqb k dinf) refl))))))
  where
    go : (b : Bool) {f : Bool} → f ≡ false → cond b true f ≡ b
    go true e = refl
    go false e = e

and_unit : (a : Bool) → (a && true) ≡ a
and_unit true = refl
and_unit false = refl

module _ (check : ℕ → List ℕ → Bool) where
  -- what is asked of an atom of a file
  in_file : (a : List ℕ) → below check 5 file a ≡ cond (eqb (kind_of a) moov) (everywhere check 5 moov (body_of a)) true
  in_file a = rw (moov_only (kind_of a)) (go (eqb (kind_of a) moov) refl)
    where
      go : (b : Bool) → eqb (kind_of a) moov ≡ b → cond b (everywhere check 5 (kind_of a) (body_of a)) true ≡ cond b (everywhere check 5 moov (body_of a)) true
      go true e = ap (λ k. everywhere check 5 k (body_of a)) (eqb-true (kind_of a) moov e)
      go false e = refl

  none_in : (l : List (List ℕ)) → length (of_kind moov l) ≡ 0 → all (below check 5 file) l ≡ true
  unfolding all of_kind
  none_in [] e = refl
  none_in (a ∷ l) e = rw (in_file a) (go (eqb (kind_of a) moov) e (none_in l))
    where
      go : (b : Bool) → length (cond b (a ∷ of_kind moov l) (of_kind moov l)) ≡ 0
          → (length (of_kind moov l) ≡ 0 → all (below check 5 file) l ≡ true) → (cond b (everywhere check 5 moov (body_of a)) true && all (below check 5 file) l) ≡ true
      go true h f = absurd (omega arith)
      go false h f = f h

  one_in : (l : List (List ℕ)) → length (of_kind moov l) ≡ 1 → all (below check 5 file) l ≡ everywhere check 5 moov (body_of (get_or (of_kind moov l) 0 []))
  unfolding all of_kind
  one_in [] e = absurd (omega arith)
  one_in (a ∷ l) e = rw (in_file a) (go (eqb (kind_of a) moov) e (one_in l))
    where
      go : (b : Bool) → length (cond b (a ∷ of_kind moov l) (of_kind moov l)) ≡ 1
          → (length (of_kind moov l) ≡ 1 → all (below check 5 file) l ≡ everywhere check 5 moov (body_of (get_or (of_kind moov l) 0 [])))
          → (cond b (everywhere check 5 moov (body_of a)) true && all (below check 5 file) l) ≡ everywhere check 5 moov (body_of (get_or (cond b (a ∷ of_kind moov l) (of_kind moov l)) 0 []))
      go true h f = rw (none_in l (omega arith)) (and_unit _)
      go false h f = f h

file_moov : (rule : LeafRule) (wide : Bool) (s : List ℕ) → count_in file moov s ≡ 1 → everywhere (leaves_ok rule wide) 6 file s ≡ everywhere (leaves_ok rule wide) 5 moov (moov_of s)
unfolding moov_of
file_moov rule wide s e =
    everywhere_open (leaves_ok rule wide) 6 file s (omega arith) ∙ rw (no_leaves rule wide (atoms file s)) (one_in (leaves_ok rule wide) (atoms file s) e)

-- what the walk over the file's tree says of the movie, where each atom is there as often as it must
pub moov_told : (wide : Bool) (s m : List ℕ) (tree : Checks) → tree ≡ tree_checks wide 6 file s → tree.present ≡ true → m ≡ moov_of s
    → (tree.versions ≡ versioned_movie wide m) × (tree.sizes ≡ sized_movie wide m)
unfolding present one
moov_told wide s m tree e h f =
    let once = eqb-true (count_in file moov s) 1 (everywhere_here (present wide) 5 file s (sym (ap (λ x. x.present) e) ∙ h)) in
    (ap (λ x. x.versions) e ∙ file_moov Version wide s once ∙ ap (versioned_movie wide) (sym f), ap (λ x. x.sizes) e ∙ file_moov Size wide s once ∙ ap (sized_movie wide) (sym f))
