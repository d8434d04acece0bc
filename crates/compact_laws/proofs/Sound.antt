-- A film that is not refused is sound to all its levels, and so is its moov.
-- Assumes nothing.
use Prim.Native.Nat.{ℕ}
use mathlib.Core.Path.{◌≡◌, refl, sym, ap, ◌∙◌}
use mathlib.Core.List.{List, [], ◌∷◌}
use mathlib.Core.Bool.{Bool, true, false, cond, not, ◌||◌}
use native.Mathlib.Omega.{arith}
use lib.Dec.{eqb}
use borrow.Author.Tests.{not-false}
use Rattle.lists.proofs.Booleans.{or_left}
use Rattle.atoms.specs.Kinds.{file, moov, mvhd, tkhd, mdhd, hdlr, dref, elst, stts, ctts, stsc, stsz, stco, co64, stss, stsd, container}
use Rattle.atoms.specs.Atoms.{kind_of, atoms}
use Rattle.atoms.specs.Tree.{all, everywhere}
use Rattle.leaves.specs.declared.Form.{Form}
use Rattle.leaves.specs.declared.Form.TheVariants.{Skipped}
use Rattle.leaves.specs.Leaves.{LeafRule}
use Rattle.leaves.specs.Leaves.{Version, Size}
use Rattle.leaves.specs.Leaves.{form_of, leaf_ok, atom_ok, leaves_ok}
use Rattle.structure.specs.declared.source.Source.{Source}
use Rattle.structure.specs.Rows.{some}
use Rattle.structure.specs.Movie.{moov_of, tracks_of}
use Rattle.structure.proofs.Callers.{Clear, clear, none_else}
use Rattle.leaf_checks.specs.LeafChecks.{wrong_version, wrong_size}
use Rattle.shape.specs.MovieRows.{movie_rows, movie_refusal, refusal_of}
use Rattle.shape.proofs.Tracks.{movie_rows_rise}
use Rattle.movie.specs.Refusals.{film_refusal}
use Rattle.movie.proofs.Tables.{film_is}
use Rattle.movie.proofs.Accepted.{AcceptedFile, accepted}
use Rattle.compact_tree.specs.Tree.{compact_body}
use Rattle.compact_laws.proofs.Bodies.{Sound, sound_into}
use Rattle.compact_laws.proofs.Children.{body_same}
use Rattle.compact_laws.proofs.Leaves.{skipped_ok}
use Rattle.compact_laws.proofs.Everywhere.{both}
use Rattle.compact_laws.proofs.File.{from_file}

-- ---- no read leaf stands in the file itself

none : (b : Bool) → ◌≡◌ {A = Form} (cond b Skipped Skipped) Skipped
none true = refl
none false = refl

file_skipped : (wide : Bool) (k : ℕ) → form_of wide file k ≡ Skipped
unfolding form_of
file_skipped wide k =
    rw (
      none wide,
      none (eqb k dref),
      none (eqb k stsd),
      none (eqb k co64),
      none (eqb k stss),
      none (eqb k stco),
      none (eqb k stsz),
      none (eqb k stsc),
      none (eqb k ctts),
      none (eqb k stts),
      none (eqb k elst),
      none (eqb k hdlr),
      none (eqb k mdhd),
      none (eqb k tkhd),
      none (eqb k mvhd),
    ) refl

file_leaves : (rule : LeafRule) (wide : Bool) (l : List (List ℕ)) → all (atom_ok rule wide file) l ≡ true
unfolding all
file_leaves rule wide [] = refl
file_leaves rule wide (a ∷ l) = both _ _ (ap (λ f. leaf_ok rule f a) (file_skipped wide (kind_of a)) ∙ skipped_ok rule a) (file_leaves rule wide l)

-- ---- a film that is not refused

module _ (s : List ℕ) (w : Source) (e : film_refusal s w ≡ 0) where
  pub film : AcceptedFile s w
  film = accepted s w e

  rows_clear : Clear (λ r. r.whole (moov_of s) || some r.track (tracks_of (moov_of s))) (movie_rows w.alone)
  unfolding refusal_of movie_refusal
  rows_clear = clear _ 6 (movie_rows w.alone) (movie_rows_rise w.alone) (none_else _ _ (none_else _ _ (sym (film_is s w) ∙ e)).0).1

  sizes_hold : everywhere (leaves_ok Size w.alone) 5 moov (moov_of s) ≡ true
  unfolding movie_rows wrong_size
  sizes_hold = not-false _ (or_left _ _ (or_left _ _ rows_clear.1.0))

  pub versions_hold : everywhere (leaves_ok Version w.alone) 5 moov (moov_of s) ≡ true
  unfolding movie_rows wrong_version
  versions_hold = not-false _ (or_left _ _ rows_clear.0)

  pub versions_before : wrong_version w.alone (moov_of s) ≡ false
  unfolding movie_rows
  versions_before = or_left _ _ rows_clear.0

  pub sound : Sound w.alone 6 file s
  sound = record {
    fills = film.shape.tree;
    sizes = from_file (leaves_ok Size w.alone) s film.shape.moov_once ∙ both _ _ (file_leaves Size w.alone (atoms file s)) sizes_hold;
    low = omega (arith, film.shape.short);
  }

  pub moov_closed : moov_of (compact_body 6 file s) ≡ compact_body 5 moov (moov_of s)
  unfolding moov_of container
  moov_closed = body_same w.alone 5 file s sound refl moov 0 refl (omega (arith, film.shape.moov_once))

  pub sound_moov : Sound w.alone 5 moov (moov_of s)
  unfolding moov_of container
  sound_moov = sound_into w.alone 5 file moov 0 s sound refl (omega (arith, film.shape.moov_once))
