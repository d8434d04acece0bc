-- Refusals 1 to 6 of a moov alone are those of its file: below the moov nothing differs where no stbl has a co64.
-- Assumes nothing.
use Prim.Native.Nat.{ℕ, ◌+◌}
use mathlib.Core.Path.{◌≡◌, refl, sym, ap, ◌∙◌}
use mathlib.Core.List.{List, [], ◌∷◌}
use mathlib.Core.Bool.{Bool, true, false, cond, not, ◌&&◌}
use lib.ListN.{length}
use lib.Dec.{eqb}
use borrow.Author.Tests.{eqb-true, eq-eqb, le-ltb, not-true}
use native.Mathlib.Omega.{arith}
use Rattle.atoms.specs.Kinds.{file, moov, stbl, stco, co64}
use Rattle.atoms.specs.Atoms.{kind_of, atoms, of_kind, count_in, filled}
use Rattle.atoms.specs.Tree.{all, everywhere}
use Rattle.atoms.proofs.Lengths.{child_short}
use Rattle.leaves.specs.Leaves.{LeafRule}
use Rattle.leaves.specs.Leaves.{Version, Size}
use Rattle.leaves.specs.Leaves.{form_of, leaf_ok, atom_ok, leaves_ok}
use Rattle.presence.specs.Present.{one, one_offsets, tables, present}
use Rattle.structure.specs.declared.source.Source.{Source}
use Rattle.structure.specs.Movie.{moov_of}
use Rattle.structure.specs.Rows.{first}
use Rattle.leaf_checks.specs.LeafChecks.{wrong_version, wrong_size}
use Rattle.shape.specs.Refusals.{file_too_long, one_moov, wrong_atoms, wrong_counts, file_rows}
use Rattle.shape.specs.MovieRows.{movie_rows, movie_refusal, refusal_of}
use Rattle.compact_laws.proofs.File.{from_file}
use Rattle.ways.specs.Ways.{moov_atom, no_long_offsets, BothWays}
use Rattle.ways.proofs.Top.{moov_kinds, moov_filled, moov_size, moov_kind}
use Rattle.ways.proofs.Trees.{all_same, everywhere_same}

-- ---- a body without co64

offsets_same : (b : List ℕ) → count_in stbl co64 b ≡ 0 → one_offsets true b ≡ one_offsets false b
unfolding one one_offsets
offsets_same b e = let z : count_in stbl stco b + count_in stbl co64 b ≡ count_in stbl stco b = omega arith in ap (λ n. eqb n 1) z

tables_same : (b : List ℕ) → count_in stbl co64 b ≡ 0 → tables true b ≡ tables false b
unfolding tables
tables_same b e = rw (offsets_same b e)

present_same : (p : ℕ) (b : List ℕ) → no_long_offsets p b ≡ true → present true p b ≡ present false p b
unfolding no_long_offsets present
present_same p b h = go (eqb p stbl) refl h
  where
    go : (c : Bool) → eqb p stbl ≡ c → cond c (eqb (count_in stbl co64 b) 0) true ≡ true → present true p b ≡ present false p b
    go true q k = rw (tables_same b (eqb-true _ _ k))
    go false q k = rw q

none_of : (k : ℕ) (l : List (List ℕ)) → length (of_kind k l) ≡ 0 → all (λ a. not (eqb (kind_of a) k)) l ≡ true
unfolding all of_kind
none_of k [] h = refl
none_of k (a ∷ l) h = go (eqb (kind_of a) k) refl (none_of k l) h
  where
    go : (c : Bool) → eqb (kind_of a) k ≡ c → (length (of_kind k l) ≡ 0 → all (λ x. not (eqb (kind_of x) k)) l ≡ true)
        → length (cond c (a ∷ of_kind k l) (of_kind k l)) ≡ 0 → (not (eqb (kind_of a) k) && all (λ x. not (eqb (kind_of x) k)) l) ≡ true
    go true q ih e = absurd (omega arith)
    go false q ih e = rw q (ih e)

form_other : (p k : ℕ) → eqb k co64 ≡ false → form_of true p k ≡ form_of false p k
unfolding form_of
form_other p k q = rw q

form_elsewhere : (p k : ℕ) → eqb p stbl ≡ false → form_of true p k ≡ form_of false p k
unfolding form_of
form_elsewhere p k q = rw q

all_true : (l : List (List ℕ)) → all (λ a. true) l ≡ true
unfolding all
all_true [] = refl
all_true (a ∷ l) = all_true l

leaves_same : (rule : LeafRule) (p : ℕ) (b : List ℕ) → no_long_offsets p b ≡ true → leaves_ok rule true p b ≡ leaves_ok rule false p b
unfolding no_long_offsets
leaves_same rule p b h = go (eqb p stbl) refl h
  where
    go : (c : Bool) → eqb p stbl ≡ c → cond c (eqb (count_in stbl co64 b) 0) true ≡ true → leaves_ok rule true p b ≡ leaves_ok rule false p b
    go true q k =
        all_same (atom_ok rule true p) (atom_ok rule false p) (λ a. not (eqb (kind_of a) co64)) (atoms p b)
        (λ a e. ap (λ f. leaf_ok rule f a) (form_other p (kind_of a) (not-true _ e)))
        (none_of co64 (atoms p b) (ap (λ x. count_in x co64 b) (eqb-true p stbl q) ∙ eqb-true (count_in stbl co64 b) 0 k))
    go false q k =
        all_same (atom_ok rule true p) (atom_ok rule false p) (λ a. true) (atoms p b) (λ a e. ap (λ f. leaf_ok rule f a) (form_elsewhere p (kind_of a) q)) (all_true (atoms p b))

-- ---- below the moov

module _ (m : List ℕ) (h : everywhere no_long_offsets 5 moov m ≡ true) where
  counts_same : everywhere (present true) 5 moov m ≡ everywhere (present false) 5 moov m
  counts_same = everywhere_same (present true) (present false) no_long_offsets present_same 5 moov m h

  leaves_below : (rule : LeafRule) → everywhere (leaves_ok rule true) 5 moov m ≡ everywhere (leaves_ok rule false) 5 moov m
  leaves_below rule = everywhere_same (leaves_ok rule true) (leaves_ok rule false) no_long_offsets (leaves_same rule) 5 moov m h

  pub version_same : wrong_version true m ≡ wrong_version false m
  unfolding wrong_version
  version_same = ap not (leaves_below Version)

  pub size_same : wrong_size true m ≡ wrong_size false m
  unfolding wrong_size
  size_same = rw (leaves_below Size)

  movie_same : movie_refusal true m ≡ movie_refusal false m
  unfolding movie_rows movie_refusal first
  movie_same = rw (version_same, size_same)

-- ---- the rows that are judged on the bytes lent

module _ (s : List ℕ) (b : BothWays s) where
  pub moov_same : moov_of (moov_atom s) ≡ moov_of s
  unfolding moov_of
  moov_same = rw (moov_kinds s b.one)

  moov_one : count_in file moov (moov_atom s) ≡ 1
  moov_one = ap length (moov_kinds s b.one)

  one-moov : one_moov (moov_atom s) ≡ true
  unfolding one_moov
  one-moov = rw (eq-eqb _ _ (moov_size s b.one), moov_kind s b.one)

  -- a condition that holds of both top levels holds of both, or of neither
  tree_same : (check : ℕ → List ℕ → Bool) → check file s ≡ true → check file (moov_atom s) ≡ true → everywhere check 6 file (moov_atom s) ≡ everywhere check 6 file s
  tree_same check f g =
      from_file check (moov_atom s) moov_one ∙ rw (g, moov_same) (sym (from_file check s b.one ∙ rw f))

  module _ (w v : Source) (wa : w.alone ≡ false) (va : v.alone ≡ true) (vl : v.length ≡ length s) where
    long_first : file_too_long w s ≡ false
    unfolding file_too_long
    long_first = rw (le-ltb 2147483647 (length s) b.short, wa)

    long_second : file_too_long v (moov_atom s) ≡ false
    unfolding file_too_long
    long_second =
        let l = child_short file moov 0 s in
        rw (va, vl, le-ltb 2147483647 (length (moov_atom s)) (omega (arith, l, b.short)), le-ltb 9223372036854775807 (length s) (omega (arith, b.short)), le-ltb (length s) (length (moov_atom s)) l)

    atoms_same : wrong_atoms v (moov_atom s) ≡ wrong_atoms w s
    unfolding wrong_atoms
    atoms_same = rw (va, wa, one-moov, tree_same filled b.top (moov_filled s b.one))

    present_both : everywhere (present true) 6 file (moov_atom s) ≡ everywhere (present false) 6 file s
    unfolding present one
    present_both =
        from_file (present true) (moov_atom s) moov_one
        ∙ rw (moov_one, moov_same, counts_same (moov_of s) b.narrow) (sym (from_file (present false) s b.one ∙ rw b.one))

    wrong_counts_same : wrong_counts v (moov_atom s) ≡ wrong_counts w s
    unfolding wrong_counts
    wrong_counts_same = rw (va, wa) (ap not present_both)

    pub shape_same : refusal_of v (moov_atom s) ≡ refusal_of w s
    unfolding file_rows first refusal_of
    shape_same = rw (long_first, long_second, atoms_same, wrong_counts_same, va, wa, moov_same, movie_same (moov_of s) b.narrow)
