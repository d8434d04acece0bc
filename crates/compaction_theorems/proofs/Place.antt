-- What is written stands where the moov stood: all other bytes of the file are copied.
-- Assumes nothing.
use Prim.Native.Nat.{ℕ, ◌+◌}
use mathlib.Core.Path.{◌≡◌, refl, sym, ap, ◌∙◌}
use mathlib.Core.List.{List, [], ◌∷◌, ◌++◌, map, append_assoc, append-nil}
use mathlib.Core.Bool.{Bool, true, false, cond}
use native.Mathlib.Omega.{arith}
use native.Mathlib.Nat.{zero-add, add_assoc}
use lib.ListN.{length, take, drop, get_or}
use lib.Seq.{take-append-add, drop-append-add, drop_at}
use lib.Dec.{eqb}
use borrow.Author.Tests.{eq-eqb}
use Rattle.atoms.specs.Kinds.{file, moov, container}
use Rattle.atoms.specs.Atoms.{kind_of, header_of, body_of, atoms, of_kind, child_in}
use Rattle.structure.specs.declared.source.Source.{Source}
use Rattle.top_level.specs.TopLevel.{moov_place}
use Rattle.movie.specs.Refusals.{film_refusal}
use Rattle.byte_writing.specs.Bytes.{joined}
use Rattle.compact_tree.specs.Tree.{compact_body}
use Rattle.compact_tree.proofs.Putting.{compact_atom}
use Rattle.compact_laws.proofs.File.{only_moov}
use Rattle.compact_laws.proofs.Rewritten.{atoms_joined}
use Rattle.compact_laws.proofs.Everywhere.{opened_other}
use Rattle.compact_laws.proofs.Children.{leaf_kept, taken, child_map}
use Rattle.compact_laws.proofs.Sound.{film, sound}
use Rattle.compaction.specs.Compaction.{compact_moov}
use Rattle.compaction_theorems.proofs.Movie.{kind_is}
use Rattle.compaction_theorems.proofs.Film.{child_self}
use Rattle.atoms.proofs.Into.{everywhere_here}

-- ---- in a list of top-level atoms, of which one is a moov

module _ (n : ℕ) where
  abbrev g : List ℕ → List ℕ
  g a = compact_atom n file a

  pub copied : (a : List ℕ) → eqb (kind_of a) moov ≡ false → g a ≡ a
  copied a e = leaf_kept n file a (only_moov (kind_of a) ∙ e)

  pub all_copied : (l : List (List ℕ)) → length (of_kind moov l) ≡ 0 → map g l ≡ l
  unfolding of_kind
  all_copied [] h = refl
  all_copied (a ∷ l) h = go (eqb (kind_of a) moov) refl h (all_copied l)
    where
      go : (b : Bool) → eqb (kind_of a) moov ≡ b → length (cond b (a ∷ of_kind moov l) (of_kind moov l)) ≡ 0 → (length (of_kind moov l) ≡ 0 → map g l ≡ l) → map g (a ∷ l) ≡ a ∷ l
      go true e h ih = absurd (omega arith)
      go false e h ih = ap (λ x. x ∷ map g l) (copied a e) ∙ ap (λ x. a ∷ x) (ih h)

  pub replaced : (l : List (List ℕ)) → length (of_kind moov l) ≡ 1
      → joined (map g l) ≡ take (moov_place l) (joined l) ++ (g (get_or (of_kind moov l) 0 []) ++ drop (moov_place l + length (get_or (of_kind moov l) 0 [])) (joined l))
  unfolding of_kind joined moov_place
  replaced [] h = absurd (omega arith)
  replaced (a ∷ l) h = go (eqb (kind_of a) moov) refl h (replaced l)
    where
      go : (b : Bool) → eqb (kind_of a) moov ≡ b → length (cond b (a ∷ of_kind moov l) (of_kind moov l)) ≡ 1
          → (length (of_kind moov l) ≡ 1 → joined (map g l) ≡ take (moov_place l) (joined l) ++ (g (get_or (of_kind moov l) 0 []) ++ drop (moov_place l + length (get_or (of_kind moov l) 0 [])) (joined l)))
          → g a ++ joined (map g l)
          ≡ take (cond b 0 (length a + moov_place l)) (a ++ joined l)
          ++ (g (get_or (cond b (a ∷ of_kind moov l) (of_kind moov l)) 0 []) ++ drop (cond b 0 (length a + moov_place l) + length (get_or (cond b (a ∷ of_kind moov l) (of_kind moov l)) 0 [])) (a ++ joined l))
      go true e h ih =
          ap (λ x. g a ++ joined x) (all_copied l (omega arith))
          ∙ ap (λ x. g a ++ x) (sym (ap (λ (k : ℕ). drop k (a ++ joined l)) (zero-add (length a)) ∙ drop_at a (joined l) (length a) refl))
      go false e h ih =
          let c = get_or (of_kind moov l) 0 [] in
          let m = moov_place l in
          let j = joined l in
          ap (λ x. x ++ joined (map g l)) (copied a e)
          ∙ ap (λ x. a ++ x) (ih h)
          ∙ sym (append_assoc a (take m j) (g c ++ drop (m + length c) j))
          ∙ ap (λ x. x ++ (g c ++ drop (m + length c) j)) (sym (take-append-add a j m))
          ∙ ap (λ x. take (length a + m) (a ++ j) ++ (g c ++ x)) (sym (ap (λ (k : ℕ). drop k (a ++ j)) (add_assoc (length a) m (length c)) ∙ drop-append-add a j (m + length c)))

-- the moov of a file, written anew
pub atom_written : (s : List ℕ) → kind_of (child_in file moov 0 s) ≡ moov → compact_atom 5 file (child_in file moov 0 s) ≡ compact_moov s
unfolding compact_moov
atom_written s k =
    let a = child_in file moov 0 s in
    taken 5 file a (only_moov (kind_of a) ∙ eq-eqb (kind_of a) moov k) ∙ ap (λ (j : ℕ). take (header_of a) a ++ compact_body 5 j (body_of a)) k

module _ (s : List ℕ) (w : Source) (e : film_refusal s w ≡ 0) where
  moov_kind : kind_of (child_in file moov 0 s) ≡ moov
  moov_kind = kind_is file moov s (film s w e).shape.moov_once

  moov_atom : compact_atom 5 file (child_in file moov 0 s) ≡ compact_moov s
  moov_atom = atom_written s moov_kind

  -- it is the moov of the compact film, by either way in
  pub moov_written : child_in file moov 0 (compact_body 6 file s) ≡ compact_moov s
  unfolding container
  moov_written = child_map w.alone 5 file s (sound s w e) refl moov 0 ∙ moov_atom

  pub in_place : compact_body 6 file s ≡ take (moov_place (atoms file s)) s ++ (compact_moov s ++ drop (moov_place (atoms file s) + length (child_in file moov 0 s)) s)
  unfolding container
  in_place =
      let j = atoms_joined file s (everywhere_here _ 5 file s (sound s w e).fills) in
      let p = moov_place (atoms file s) in
      opened_other 5 file s refl
      ∙ rw j at (replaced 5 (atoms file s) (film s w e).shape.moov_once)
      ∙ ap (λ x. take p s ++ (x ++ drop (p + length (child_in file moov 0 s)) s)) moov_atom

  -- of a moov alone it is all
  pub alone_written : atoms file s ≡ s ∷ [] → compact_body 6 file s ≡ compact_moov s
  unfolding container joined
  alone_written a =
      let c = child_self s a (film s w e).shape.moov_once in
      opened_other 5 file s refl
      ∙ ap (λ l. joined (map (compact_atom 5 file) l)) a
      ∙ append-nil (compact_atom 5 file s)
      ∙ ap (compact_atom 5 file) (sym c)
      ∙ moov_atom
