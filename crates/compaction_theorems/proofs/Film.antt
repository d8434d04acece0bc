-- The compact film of a film that is not refused: its refusals by default and strictly are what they were, and its tracks are the same.
-- Assumes nothing.
use Prim.Native.Nat.{ℕ, ◌+◌}
use mathlib.Core.Path.{◌≡◌, refl, sym, ap, ◌∙◌}
use mathlib.Core.List.{List, [], ◌∷◌, ◌++◌, map, append-nil}
use mathlib.Core.Bool.{Bool, true, false, cond, not, ◌&&◌}
use native.Mathlib.Omega.{arith}
use lib.ListN.{length, get_or}
use lib.Seq.{take-length, drop-length}
use lib.Dec.{eqb}
use borrow.Author.Tests.{eqb-true, eq-eqb, not-false}
use Rattle.lists.proofs.Booleans.{and_left, or_right}
use Rattle.atoms.specs.Kinds.{file, moov, trak, container}
use Rattle.atoms.specs.Pieces.{pieces_after}
use Rattle.atoms.specs.Atoms.{kind_of, size_in, atoms, of_kind, count_in, child_in, filled}
use Rattle.atoms.specs.Tree.{everywhere}
use mathlib.Core.Logic.{⊎_elim}
use Rattle.atoms.proofs.Laws.{atoms_none, atoms_next}
use Rattle.atoms.proofs.Into.{everywhere_here}
use Rattle.structure.specs.declared.source.Source.{Source}
use Rattle.structure.specs.Source.{strictly, length_of}
use Rattle.structure.specs.Rows.{first}
use Rattle.structure.proofs.Callers.{clear, none_else}
use Rattle.shape.specs.Refusals.{file_too_long, one_moov, wrong_atoms, wrong_counts, file_rows}
use Rattle.shape.specs.MovieRows.{refusal_of}
use Rattle.shape.proofs.Tracks.{file_rows_rise}
use Rattle.top_level.specs.TopLevel.{OneMoov}
use Rattle.top_level.proofs.Places.{moov_alone}
use Rattle.movie.specs.Refusals.{film_refusal}
use Rattle.movie.proofs.Tables.{film_is}
use Rattle.byte_writing.specs.Bytes.{joined}
use Rattle.compact_tree.specs.Tree.{compact_body}
use Rattle.compact_tree.proofs.Putting.{compact_atom}
use Rattle.compact_laws.proofs.Rewritten.{few, differ, atoms_joined}
use Rattle.compact_laws.proofs.Bodies.{body_length, body_atoms}
use Rattle.compact_laws.proofs.Children.{count_same}
use Rattle.compact_laws.proofs.Everywhere.{fills_kept, both}
use Rattle.compact_laws.proofs.Presence.{present_kept}
use Rattle.compact_laws.proofs.Sound.{film, sound}
use Rattle.compaction_theorems.proofs.Movie.{tracks_compact}
use Rattle.compaction_theorems.proofs.Refusals.{sames, scale_same, movie_duration_same, movie_profile_same, tables_same, movie_same}
use Rattle.ways.proofs.Answers.{SameFilm}

joined_one : (a : List ℕ) → joined (a ∷ []) ≡ a ++ []
unfolding joined
joined_one a = refl

kinds_nothing : (k : ℕ) → length (of_kind k []) ≡ 0
unfolding of_kind
kinds_nothing k = refl

-- a body that is one atom is its own child
pub child_self : (x : List ℕ) → atoms file x ≡ x ∷ [] → count_in file moov x ≡ 1 → child_in file moov 0 x ≡ x
unfolding of_kind
child_self x a c = ap (λ l. get_or (of_kind moov l) 0 []) a ∙ go (eqb (kind_of x) moov) (sym (ap (λ l. length (of_kind moov l)) a) ∙ c)
  where
    go : (b : Bool) → length (cond b (x ∷ []) ([])) ≡ 1 → get_or (cond b (x ∷ []) ([])) 0 [] ≡ x
    go true h = refl
    go false h = absurd (omega arith)

nothing_in : atoms file [] ≡ []
unfolding pieces_after
nothing_in = refl

-- bytes that are one moov atom
alone_atoms : (s : List ℕ) → count_in file moov s ≡ 1 → size_in file s ≡ length s → atoms file s ≡ s ∷ []
alone_atoms s c e = ⊎_elim
    (λ h. absurd (omega (arith, c, ap (λ l. length (of_kind moov l)) (atoms_none file s (length s) (sym e) h), empty)))
    (λ h. atoms_next file s (length s) (sym e) h ∙ rw (take-length s, drop-length s, nothing_in) refl)
    (few (length s))
  where
    empty : length (of_kind moov []) ≡ 0
    empty = kinds_nothing moov

module _ (s : List ℕ) (w : Source) (e : film_refusal s w ≡ 0) where
  abbrev s' : List ℕ
  s' = compact_body 6 file s

  pub lengths : length (compact_body 6 file s) ≡ length s
  lengths = body_length w.alone 6 file s (sound s w e)

  rows_before : (file_too_long w s ≡ false) × (wrong_atoms w s ≡ false) × (wrong_counts w s ≡ false)
  unfolding file_rows refusal_of
  rows_before =
      let r = clear (λ q. q.whole s) 0 (file_rows w) (file_rows_rise w) (none_else _ _ (none_else _ _ (sym (film_is s w) ∙ e)).0).0 in
      (r.0, r.1.0, r.1.1.0)

  long_same : file_too_long w (compact_body 6 file s) ≡ file_too_long w s
  unfolding file_too_long
  long_same = rw lengths refl

  -- one moov by itself stays one
  one_count : count_in file moov (compact_body 6 file s) ≡ 1
  unfolding container
  one_count = count_same w.alone 5 file s (sound s w e) refl moov ∙ (film s w e).shape.moov_once

  pub one_atom : one_moov s ≡ true → atoms file s ≡ s ∷ []
  unfolding one_moov
  one_atom o = alone_atoms s (film s w e).shape.moov_once (eqb-true (size_in file s) (length s) (and_left _ _ o))

  one_same : one_moov s ≡ true → one_moov (compact_body 6 file s) ≡ true
  unfolding one_moov
  one_same o =
      let a = one_atom o in
      let b : atoms file (compact_body 6 file s) ≡ compact_atom 5 file s ∷ [] = body_atoms w.alone 5 file s (sound s w e) refl ∙ ap (map (compact_atom 5 file)) a in
      let f = everywhere_here filled 5 file (compact_body 6 file s) (fills_kept w.alone 6 file s (sound s w e)) in
      let j : compact_atom 5 file s ++ [] ≡ compact_body 6 file s = sym (joined_one (compact_atom 5 file s)) ∙ ap joined (sym b) ∙ atoms_joined file (compact_body 6 file s) f in
      let k : atoms file (compact_body 6 file s) ≡ compact_body 6 file s ∷ [] = b ∙ ap (λ x. x ∷ []) (sym (append-nil (compact_atom 5 file s)) ∙ j) in
      let i = child_self (compact_body 6 file s) k one_count in
      let m : OneMoov (compact_body 6 file s) = rw i at (moov_alone (compact_body 6 file s) (omega (arith, one_count))) in
      both _ _ (eq-eqb _ _ m.size) (eq-eqb _ _ m.kind)

  atoms_clear : wrong_atoms w (compact_body 6 file s) ≡ false
  unfolding wrong_atoms
  atoms_clear =
      rw (fills_kept w.alone 6 file s (sound s w e)) (go w.alone (one_moov s) refl (or_right (not (everywhere filled 6 file s)) _ rows_before.1))
    where
      go : (b o : Bool) → one_moov s ≡ o → (b && not o) ≡ false → (b && not (one_moov (compact_body 6 file s))) ≡ false
      go true true q h = rw (one_same q)
      go true false q h = absurd (differ h)
      go false o q h = refl

  pub alone_atom : w.alone ≡ true → atoms file s ≡ s ∷ []
  unfolding wrong_atoms
  alone_atom a = one_atom (not-false _ (rw a at (or_right (not (everywhere filled 6 file s)) _ rows_before.1)))

  counts_clear : wrong_counts w (compact_body 6 file s) ≡ false
  unfolding wrong_counts
  counts_clear = rw (present_kept w.alone w.alone 6 file s (sound s w e) (not-false _ rows_before.2))

  shape_same : refusal_of w (compact_body 6 file s) ≡ refusal_of w s
  unfolding refusal_of file_rows first
  shape_same = rw (long_same, atoms_clear, counts_clear, rows_before.1, rows_before.2, movie_same s w e)

  length-of : length_of w (compact_body 6 file s) ≡ length_of w s
  unfolding length_of
  length-of = rw lengths refl

  pub film_same : film_refusal (compact_body 6 file s) w ≡ film_refusal s w
  film_same = film_is (compact_body 6 file s) w ∙ rw (shape_same, length-of, tables_same s w e w (length_of w s)) (sym (film_is s w))

  strict_shape : (x : List ℕ) → refusal_of (strictly w) x ≡ refusal_of w x
  unfolding refusal_of file_rows file_too_long wrong_atoms wrong_counts
  strict_shape x = refl

  strict_length : (x : List ℕ) → length_of (strictly w) x ≡ length_of w x
  unfolding length_of
  strict_length x = refl

  pub strict_same : film_refusal (compact_body 6 file s) (strictly w) ≡ film_refusal s (strictly w)
  strict_same =
      film_is (compact_body 6 file s) (strictly w)
      ∙ rw (strict_shape (compact_body 6 file s), strict_length (compact_body 6 file s), shape_same, length-of, tables_same s w e (strictly w) (length_of w s))
      (sym (film_is s (strictly w) ∙ rw (strict_shape s, strict_length s) refl))

  pub same_film : SameFilm s (compact_body 6 file s) w w
  same_film = record {
    refusal = film_same;
    strict = strict_same;
    became = compact_body 4 trak;
    tracks = tracks_compact s w e;
    each = sames s w e;
    scale = scale_same s w e;
    profile = movie_profile_same s w e;
    duration = movie_duration_same s w e;
  }
