-- The walk over the top level of a compact film, and the bytes of the film outside its moov.
-- Assumes nothing.
use Prim.Native.Nat.{ℕ, ◌+◌, ◌-◌, ◌≤◌, ◌<◌}
use mathlib.Core.Path.{◌≡◌, refl, sym, ap, ◌∙◌}
use mathlib.Core.Logic.{◌⊎◌, ⊎_elim}
use mathlib.Core.List.{List, [], ◌∷◌, ◌++◌, map}
use mathlib.Core.Bool.{Bool, true, false, cond}
use native.Mathlib.Omega.{arith}
use native.Mathlib.Decide.{dec_lt}
use lib.ListN.{length, take, drop, get_or, length-append, length-take, length-drop, get_or-append, get_or-eq_default}
use lib.Seq.{get_or-take, get_or-drop, get_or-append-add, length-take-le}
use lib.Dec.{eqb, ltb}
use borrow.Author.Tests.{eq-eqb, le-ltb}
use Rattle.atoms.specs.Kinds.{file, moov, container}
use Rattle.atoms.specs.Atoms.{kind_of, atoms, count_in, child_in, filled}
use Rattle.atoms.proofs.Into.{everywhere_here}
use Rattle.structure.specs.declared.source.Source.{Source}
use Rattle.movie.specs.Refusals.{film_refusal}
use Rattle.top_level.specs.declared.Next.{Next}
use Rattle.top_level.specs.declared.Next.TheVariants.{Read, Found, Refused}
use Rattle.top_level.specs.TopLevel.{walked, moov_place, moov_in, top_level}
use Rattle.top_level.proofs.Walking.{only_found, finds}
use Rattle.compact_tree.specs.Tree.{compact_body}
use Rattle.compact_tree.proofs.Putting.{compact_atom}
use Rattle.compact_laws.proofs.Rewritten.{Each}
use Rattle.compact_laws.proofs.Bodies.{Headed, body_atoms, atoms_headed}
use Rattle.compact_laws.proofs.Children.{kind_kept, count_same}
use Rattle.compact_laws.proofs.Everywhere.{fills_kept}
use Rattle.compact_laws.proofs.Sound.{film, sound}
use Rattle.compaction.specs.Compaction.{compact_moov}
use Rattle.compaction_theorems.specs.Compact.{Outside}
use Rattle.compaction_theorems.proofs.Film.{lengths}
use Rattle.compaction_theorems.proofs.Place.{copied, moov_written, in_place}

-- whether an answer tells a place and a size, and these
abbrev told : Next → ℕ × ℕ × ℕ
told (Read w) = (0, 0, 0)
told (Found at size) = (1, at, size)
told (Refused r) = (0, 0, 0)

-- ---- the walk

-- the atoms before the moov are copied
place_kept : (n : ℕ) (l : List (List ℕ)) → Each Headed l → moov_place (map (compact_atom n file) l) ≡ moov_place l
unfolding moov_place
place_kept n [] h = refl
place_kept n (a ∷ l) h = rw (kind_kept n file a h.0.0) (go (eqb (kind_of a) moov) refl (place_kept n l h.1))
  where
    go : (b : Bool) → eqb (kind_of a) moov ≡ b → moov_place (map (compact_atom n file) l) ≡ moov_place l
        → cond b 0 (length (compact_atom n file a) + moov_place (map (compact_atom n file) l)) ≡ cond b 0 (length a + moov_place l)
    go true e ih = refl
    go false e ih = ap (λ x. length x + moov_place (map (compact_atom n file) l)) (copied n a e) ∙ ap (λ (k : ℕ). length a + k) ih

-- the walk says no more than this of a file
pub walked_same : (x s : List ℕ) → length x ≡ length s → filled file x ≡ filled file s → count_in file moov x ≡ count_in file moov s
    → moov_place (atoms file x) ≡ moov_place (atoms file s) → length (child_in file moov 0 x) ≡ length (child_in file moov 0 s) → walked x ≡ walked s
unfolding top_level moov_in
walked_same x s l f c p n = (finds x).says ∙ rw (l, f, c, p, n) (sym (finds s).says)

-- where it finds a moov, that is the place and the size of the one that the file has
pub found_at : (s : List ℕ) (at size : ℕ) → walked s ≡ Found at size → (at ≡ moov_place (atoms file s)) × (size ≡ length (child_in file moov 0 s))
unfolding top_level moov_in
found_at s at size f =
    let o = only_found s at size f in
    go (ltb 9223372036854775807 (length s)) (sym f ∙ rw (o.0, eq-eqb (count_in file moov s) 1 o.1) at (finds s).says)
  where
    go : (b : Bool) → Found at size ≡ cond b (Refused 1) (Found (moov_place (atoms file s)) (length (child_in file moov 0 s)))
        → (at ≡ moov_place (atoms file s)) × (size ≡ length (child_in file moov 0 s))
    go true q = let z = ap (λ n. (told n).0) q in absurd (omega arith)
    go false q = (ap (λ n. (told n).1) q, ap (λ n. (told n).2) q)

-- a file that its atoms fill, with one moov
top_is : (s : List ℕ) → length s < 4294967296 → filled file s ≡ true → count_in file moov s ≡ 1 → top_level s ≡ Found (moov_place (atoms file s)) (length (child_in file moov 0 s))
unfolding top_level moov_in
top_is s b f c = rw (le-ltb 9223372036854775807 (length s) (omega (arith, b)), f, eq-eqb (count_in file moov s) 1 c)

module _ (s : List ℕ) (w : Source) (e : film_refusal s w ≡ 0) where
  -- the walk over a film that is not refused
  pub found : walked s ≡ Found (moov_place (atoms file s)) (length (child_in file moov 0 s))
  found = (finds s).says ∙ top_is s (sound s w e).low (everywhere_here filled 5 file s (sound s w e).fills) (film s w e).shape.moov_once

  pub moov_length : length (compact_moov s) ≡ length (child_in file moov 0 s)
  moov_length =
      let p = moov_place (atoms file s) in
      let n = length (child_in file moov 0 s) in
      let h = (finds s).inside p n found in
      let x = length-append (take p s) (compact_moov s ++ drop (p + n) s) in
      let y = length-append (compact_moov s) (drop (p + n) s) in
      omega (arith, h, sym (lengths s w e) ∙ ap length (in_place s w e), x, y, length-take-le p s (omega (arith, h)), length-drop (p + n) s)

  after_place : moov_place (atoms file (compact_body 6 file s)) ≡ moov_place (atoms file s)
  unfolding container
  after_place = ap moov_place (body_atoms w.alone 5 file s (sound s w e) refl) ∙ place_kept 5 (atoms file s) (atoms_headed file s (sound s w e).low)

  pub walk_same : walked (compact_body 6 file s) ≡ walked s
  unfolding container
  walk_same =
      let f = everywhere_here filled 5 file (compact_body 6 file s) (fills_kept w.alone 6 file s (sound s w e)) in
      let g = everywhere_here filled 5 file s (sound s w e).fills in
      walked_same (compact_body 6 file s) s (lengths s w e) (f ∙ sym g) (count_same w.alone 5 file s (sound s w e) refl moov) after_place
      (ap length (moov_written s w e) ∙ moov_length)

-- ---- bytes before and past the part that is replaced

pub part_same : (x y : List ℕ) (start size i : ℕ) → (i < size → get_or x (start + i) 0 ≡ get_or y (start + i) 0) → get_or (take size (drop start x)) i 0 ≡ get_or (take size (drop start y)) i 0
part_same x y start size i h = elim (dec_lt i size) [
  | yes g ↦ at_part x g ∙ h g ∙ sym (at_part y g)
  | no g ↦ past x g ∙ sym (past y g)
]
  where
    at_part : (z : List ℕ) → i < size → get_or (take size (drop start z)) i 0 ≡ get_or z (start + i) 0
    at_part z g = get_or-take size (drop start z) i 0 g ∙ get_or-drop start z i 0

    past : (z : List ℕ) → (i < size → ⊥) → get_or (take size (drop start z)) i 0 ≡ 0
    past z g = get_or-eq_default (take size (drop start z)) 0 {n = i} (omega (arith, g, length-take size (drop start z)))

module _ (s m : List ℕ) (at size : ℕ) (h : at + size ≤ length s) (l : length m ≡ size) where
  abbrev replaced : List ℕ
  replaced = take at s ++ (m ++ drop (at + size) s)

  before_same : (i : ℕ) → i < at → get_or replaced i 0 ≡ get_or s i 0
  before_same i g =
      let n = length-take-le at s (omega arith) in
      get_or-append (take at s) (m ++ drop (at + size) s) 0 i (omega (arith, n)) ∙ get_or-take at s i 0 g

  past_same : (i : ℕ) → at + size ≤ i → get_or replaced i 0 ≡ get_or s i 0
  past_same i g =
      let n = length-take-le at s (omega arith) in
      let k = i - (at + size) in
      let r = drop (at + size) s in
      let p : i ≡ length (take at s) + (length m + k) = omega (arith, n, l) in
      let q : at + size + k ≡ i = omega (arith, g) in
      ap (λ (j : ℕ). get_or replaced j 0) p
      ∙ get_or-append-add (take at s) (m ++ r) (length m + k) 0
      ∙ get_or-append-add m r k 0
      ∙ get_or-drop (at + size) s k 0
      ∙ ap (λ (j : ℕ). get_or s j 0) q

  pub outside_same : (i : ℕ) → Outside at size i → get_or (take at s ++ (m ++ drop (at + size) s)) i 0 ≡ get_or s i 0
  outside_same i = ⊎_elim (before_same i) (past_same i)
