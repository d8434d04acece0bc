-- A file of any length whose moov alone is not refused, with what is written in the moov's place: its atoms are the same but for the moov.
-- Assumes nothing.
use Prim.Native.Nat.{ℕ, ◌+◌, ◌≤◌}
use mathlib.Core.Path.{◌≡◌, refl, sym, ap, ◌∙◌}
use mathlib.Core.List.{List, [], ◌∷◌, map}
use mathlib.Core.Bool.{Bool, true, false, cond}
use native.Mathlib.Omega.{arith}
use lib.ListN.{length, take, get_or}
use lib.Seq.{take_at, length-take-le}
use lib.Dec.{eqb}
use borrow.Author.Tests.{eq-eqb}
use Rattle.atoms.specs.Kinds.{file, moov}
use Rattle.atoms.specs.Pieces.{total, filled_by}
use Rattle.atoms.specs.Atoms.{kind_of, header_of, body_of, atoms, of_kind, child_in, filled}
use Rattle.structure.specs.Source.{moov_alone}
use Rattle.movie.specs.Refusals.{film_refusal}
use Rattle.top_level.specs.declared.Next.TheVariants.{Found}
use Rattle.top_level.specs.TopLevel.{walked, moov_place, OneMoov}
use Rattle.top_level.proofs.Walking.{only_found, finds}
use Rattle.compact_tree.specs.Tree.{compact_body}
use Rattle.compact_tree.proofs.Putting.{compact_atom}
use Rattle.compact_laws.proofs.Rewritten.{Each, Keeps, written, Rewrites, rewrites, atoms_joined}
use Rattle.compact_laws.proofs.Bodies.{atoms_headed}
use Rattle.compact_laws.proofs.Children.{kind_kept, kind_headed, taken}
use Rattle.compact_laws.proofs.File.{only_moov}
use Rattle.compact_laws.proofs.Sound.{sound}
use Rattle.compaction.specs.Compaction.{compact_moov}
use Rattle.compaction_theorems.specs.Compact.{with_moov}
use Rattle.compaction_theorems.proofs.Place.{copied, all_copied, replaced, atom_written}
use Rattle.compaction_theorems.proofs.Walk.{found_at, moov_length, walked_same}

abbrev g : List ℕ → List ℕ
g a = compact_atom 5 file a

-- ---- each atom keeps its length and its header

keeps_other : (a : List ℕ) → eqb (kind_of a) moov ≡ false → Keeps file g a
keeps_other a e = (ap length (copied 5 a e), ap (take (header_of a)) (copied 5 a e))

keeps_none : (l : List (List ℕ)) → length (of_kind moov l) ≡ 0 → Each (Keeps file g) l
unfolding of_kind
keeps_none [] h = tt
keeps_none (a ∷ l) h = go (eqb (kind_of a) moov) refl h (keeps_none l)
  where
    go : (b : Bool) → eqb (kind_of a) moov ≡ b → length (cond b (a ∷ of_kind moov l) (of_kind moov l)) ≡ 0 → (length (of_kind moov l) ≡ 0 → Each (Keeps file g) l)
        → Each (Keeps file g) (a ∷ l)
    go true e h ih = absurd (omega arith)
    go false e h ih = (keeps_other a e, ih h)

keeps_one : (l : List (List ℕ)) → length (of_kind moov l) ≡ 1 → Keeps file g (get_or (of_kind moov l) 0 []) → Each (Keeps file g) l
unfolding of_kind
keeps_one [] h k = absurd (omega arith)
keeps_one (a ∷ l) h k = go (eqb (kind_of a) moov) refl h k (keeps_one l)
  where
    go : (b : Bool) → eqb (kind_of a) moov ≡ b → length (cond b (a ∷ of_kind moov l) (of_kind moov l)) ≡ 1 → Keeps file g (get_or (cond b (a ∷ of_kind moov l) (of_kind moov l)) 0 [])
        → (length (of_kind moov l) ≡ 1 → Keeps file g (get_or (of_kind moov l) 0 []) → Each (Keeps file g) l) → Each (Keeps file g) (a ∷ l)
    go true e h k ih = (k, keeps_none l (omega arith))
    go false e h k ih = (keeps_other a e, ih h k)

-- lengths and kinds in a list of such atoms
total_kept : (l : List (List ℕ)) → Each (Keeps file g) l → total (map g l) ≡ total l
unfolding total
total_kept [] k = refl
total_kept (a ∷ l) k = omega (arith, k.0.0, total_kept l k.1)

empty : (l : List (List ℕ)) → length l ≡ 0 → l ≡ []
empty [] h = refl
empty (a ∷ l) h = absurd (omega arith)

-- the one moov, and its place
moov_kept : (l : List (List ℕ)) → length (of_kind moov l) ≡ 1 → kind_of (g (get_or (of_kind moov l) 0 [])) ≡ moov
    → (of_kind moov (map g l) ≡ g (get_or (of_kind moov l) 0 []) ∷ []) × (moov_place (map g l) ≡ moov_place l)
unfolding of_kind moov_place
moov_kept [] h k = absurd (omega arith)
moov_kept (a ∷ l) h k = go (eqb (kind_of a) moov) refl h k (moov_kept l)
  where
    go : (b : Bool) → eqb (kind_of a) moov ≡ b → length (cond b (a ∷ of_kind moov l) (of_kind moov l)) ≡ 1 → kind_of (g (get_or (cond b (a ∷ of_kind moov l) (of_kind moov l)) 0 [])) ≡ moov
        → (length (of_kind moov l) ≡ 1 → kind_of (g (get_or (of_kind moov l) 0 [])) ≡ moov → (of_kind moov (map g l) ≡ g (get_or (of_kind moov l) 0 []) ∷ []) × (moov_place (map g l) ≡ moov_place l))
        → (cond (eqb (kind_of (g a)) moov) (g a ∷ of_kind moov (map g l)) (of_kind moov (map g l)) ≡ g (get_or (cond b (a ∷ of_kind moov l) (of_kind moov l)) 0 []) ∷ [])
        × (cond (eqb (kind_of (g a)) moov) 0 (length (g a) + moov_place (map g l)) ≡ cond b 0 (length a + moov_place l))
    go true e h k ih =
        let q = eq-eqb (kind_of (g a)) moov k in (
          ap (λ (b : Bool). cond b (g a ∷ of_kind moov (map g l)) (of_kind moov (map g l))) q ∙ ap (λ x. g a ∷ of_kind moov x) (all_copied 5 l (omega arith)) ∙ ap (λ x. g a ∷ x) (empty (of_kind moov l) (omega arith)),
          ap (λ (b : Bool). cond b 0 (length (g a) + moov_place (map g l))) q,
        )
    go false e h k ih =
        let c = copied 5 a e in
        let q : eqb (kind_of (g a)) moov ≡ false = ap (λ x. eqb (kind_of x) moov) c ∙ e in
        let r = ih h k in (
          ap (λ (b : Bool). cond b (g a ∷ of_kind moov (map g l)) (of_kind moov (map g l))) q ∙ r.0,
          ap (λ (b : Bool). cond b 0 (length (g a) + moov_place (map g l))) q ∙ ap (λ x. length x + moov_place (map g l)) c ∙ ap (λ (n : ℕ). length a + n) r.1,
        )

module _ (s : List ℕ) (at size : ℕ) (f : walked s ≡ Found at size) where
  abbrev m : List ℕ
  m = child_in file moov 0 s

  one : OneMoov (child_in file moov 0 s)
  one = rw ((finds s).moov_there at size f) at ((finds s).alone at size f)

  pub moov_same : compact_moov (child_in file moov 0 s) ≡ compact_moov s
  unfolding compact_moov
  moov_same = rw one.itself

  module _ (e : film_refusal (child_in file moov 0 s) (moov_alone (length s)) ≡ 0) where
    long_moov : length (compact_moov s) ≡ length (child_in file moov 0 s)
    long_moov = ap length (sym moov_same) ∙ moov_length m (moov_alone (length s)) e ∙ ap length one.itself

    headed : header_of (child_in file moov 0 s) ≤ length (child_in file moov 0 s)
    headed =
        let d = sound m (moov_alone (length s)) e in
        rw one.itself at (kind_headed moov (atoms file m) (atoms_headed file m d.low) 0 (omega (arith, one.counted))).0

    keeps_moov : Keeps file g (child_in file moov 0 s)
    keeps_moov =
        let h = header_of m in
        let t = taken 5 file m (only_moov (kind_of m) ∙ eq-eqb (kind_of m) moov one.kind) in
        (ap length (atom_written s one.kind) ∙ long_moov, ap (take h) t ∙ take_at (take h m) (compact_body 5 (kind_of m) (body_of m)) h (length-take-le h m headed))

    rewritten : Rewrites file g s
    rewritten = let o = only_found s at size f in rewrites file g s o.0 (keeps_one (atoms file s) o.1 keeps_moov)

    put : written file g s ≡ with_moov s at size (compact_moov s)
    unfolding written
    put =
        let o = only_found s at size f in
        let q = found_at s at size f in
        let r = rw (atoms_joined file s o.0) at (replaced 5 (atoms file s) o.1) in
        r ∙ rw (q.0, q.1, atom_written s one.kind)

    -- the file after: its atoms, its moov
    pieces_after : atoms file (with_moov s at size (compact_moov s)) ≡ map g (atoms file s)
    pieces_after = ap (atoms file) (sym put) ∙ rewritten.pieces

    kept : (of_kind moov (map g (atoms file s)) ≡ g (child_in file moov 0 s) ∷ []) × (moov_place (map g (atoms file s)) ≡ moov_place (atoms file s))
    kept = moov_kept (atoms file s) (only_found s at size f).1 (kind_kept 5 file m headed ∙ one.kind)

    pub after_long : length (with_moov s at size (compact_moov s)) ≡ length s
    after_long = ap length (sym put) ∙ rewritten.lengths

    pub after_moov : child_in file moov 0 (with_moov s at size (compact_moov s)) ≡ compact_moov s
    after_moov = ap (λ l. get_or (of_kind moov l) 0 []) pieces_after ∙ ap (λ l. get_or l 0 []) kept.0 ∙ atom_written s one.kind

    filled_after : filled file (with_moov s at size (compact_moov s)) ≡ filled file s
    unfolding filled_by
    filled_after =
        let o = only_found s at size f in
        ap (λ l. eqb (total l) (length (with_moov s at size (compact_moov s)))) pieces_after
        ∙ ap (λ (n : ℕ). eqb n (length (with_moov s at size (compact_moov s)))) (total_kept (atoms file s) (keeps_one (atoms file s) o.1 keeps_moov))
        ∙ ap (λ (n : ℕ). eqb (total (atoms file s)) n) after_long

    pub after_walk : walked (with_moov s at size (compact_moov s)) ≡ Found at size
    after_walk =
        walked_same (with_moov s at size (compact_moov s)) s after_long filled_after
        (ap (λ l. length (of_kind moov l)) pieces_after ∙ ap length kept.0 ∙ sym (only_found s at size f).1)
        (ap moov_place pieces_after ∙ kept.1)
        (ap length after_moov ∙ long_moov)
        ∙ f
