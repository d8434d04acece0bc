-- A body with its tables closed up: as long as it was, with the same headers, and its atoms are the old ones closed up.
-- Assumes nothing.
use Prim.Native.Nat.{ℕ, zero, suc, ◌+◌, ◌*◌, ◌/◌, ◌≤◌, ◌<◌}
use mathlib.Core.Path.{◌≡◌, refl, sym, ap, ◌∙◌}
use mathlib.Core.List.{List, [], ◌∷◌, ◌++◌, map}
use mathlib.Core.Bool.{Bool, true, false, cond}
use native.Mathlib.Omega.{arith}
use native.Mathlib.Nat.{mul_comm}
use lib.ListN.{length, take, drop, length-append, length-drop}
use lib.Seq.{take_at, length-take-le}
use lib.Dec.{eqb}
use lib.Arith.{digits_div}
use borrow.Author.Tests.{eqb-true}
use Rattle.bigendian.specs.BigEndian.{u32_at}
use Rattle.lists.specs.Entries.{rows_of, entries}
use Rattle.lists.proofs.Booleans.{and_left, and_right}
use Rattle.lists.proofs.Rows.{length_rows}
use Rattle.atoms.specs.Kinds.{stbl, container}
use Rattle.atoms.specs.Atoms.{kind_of, header_of, body_of, atoms, filled, count_in, body_in}
use Rattle.atoms.specs.Tree.{all, everywhere}
use Rattle.atoms.proofs.Laws.{below, size_le, atoms_none, atoms_next}
use Rattle.atoms.proofs.Into.{everywhere_into}
use Rattle.atoms.proofs.Lengths.{body_short}
use Rattle.leaves.specs.Leaves.{Size}
use Rattle.leaves.specs.Leaves.{form_of, leaf_ok, size_ok, holds_entries, atom_ok, leaves_ok}
use Rattle.compact_tables.specs.Tables.{compact_table, compact_tables}
use Rattle.compact_tree.specs.Tree.{compact_body}
use Rattle.compact_tree.proofs.Putting.{compact_atom}
use Rattle.compact_laws.proofs.Sizes.{header_fits, header_same}
use Rattle.compact_laws.proofs.Rewritten.{Each, along, Keeps, written, Rewrites, rewrites}
use Rattle.compact_laws.proofs.Tables.{Tight, tables_length, tables_atoms, free_atoms, freed_in}

-- ---- what holds of each atom of a body that is not too long

abbrev pub Headed : List ℕ → Type 0
Headed a = (header_of a ≤ length a) × (length a < 4294967296)

pub atoms_headed : (p : ℕ) (s : List ℕ) → length s < 4294967296 → Each Headed (atoms p s)
atoms_headed p = along p (λ s. length s < 4294967296 → Each Headed (atoms p s))
    (λ s z e h b. rw (atoms_none p s z e h) tt)
    (λ s z e h r b.
    let n : z ≤ length s = omega (arith, size_le p s) in
    let l = length-take-le z s n in
    rw (atoms_next p s z e h) ((omega (arith, l, header_fits p s z e h, header_same s z (omega arith)), omega (arith, l)), r (omega (arith, length-drop z s))))

-- ---- tables with their sizes

entries_count : (w : ℕ) (p : 0 < w) (a : List ℕ) → holds_entries 16 w (u32_at a 12) a ≡ true → length a ≡ 16 + length (entries 16 w a) * w
unfolding holds_entries entries
entries_count w p a h =
    let e = eqb-true (length a) (16 + w * u32_at a 12) h in
    let n = length_rows w (drop 16 a) in
    let d = length-drop 16 a in
    let q : length (drop 16 a) ≡ u32_at a 12 * w + 0 = omega (arith, e, d, mul_comm w (u32_at a 12)) in
    let k : length (rows_of w (drop 16 a)) ≡ u32_at a 12 = n ∙ ap (λ (x : ℕ). x / w) q ∙ digits_div (u32_at a 12) p in
    e ∙ ap (λ (x : ℕ). 16 + x) (mul_comm w (u32_at a 12) ∙ ap (λ (x : ℕ). x * w) (sym k))

tight : (wide : Bool) (a : List ℕ) → length a < 4294967296 → atom_ok Size wide stbl a ≡ true → Tight a
unfolding leaf_ok size_ok form_of
tight wide a b h = record {
  low = b;
  runs = λ k. entries_count 8 (omega arith) a (rw k at h);
  deals = λ k. entries_count 12 (omega arith) a (rw k at h);
}

all_tight : (wide : Bool) (l : List (List ℕ)) → Each Headed l → all (atom_ok Size wide stbl) l ≡ true → Each Tight l
unfolding all
all_tight wide [] h k = tt
all_tight wide (a ∷ l) h k = (tight wide a h.0.1 (and_left _ _ k), all_tight wide l h.1 (and_right (atom_ok Size wide stbl a) _ k))

-- ---- the recursion

module _ (wide : Bool) where
  pub record Sound (n p : ℕ) (s : List ℕ) : Type 0 where
    pub fills : everywhere filled n p s ≡ true
    pub sizes : everywhere (leaves_ok Size wide) n p s ≡ true
    pub low : length s < 4294967296

  -- lengths at n levels
  abbrev Same : ℕ → Type 0
  Same n = (p : ℕ) (s : List ℕ) → Sound n p s → length (compact_body n p s) ≡ length s

  keeps_one : (n p : ℕ) → Same n → (a : List ℕ) → Headed a → below filled n p a ≡ true → below (leaves_ok Size wide) n p a ≡ true → Keeps p (compact_atom n p) a
  unfolding body_of
  keeps_one n p ih a h f z = go (container p (kind_of a)) f z
    where
      go : (b : Bool) → cond b (everywhere filled n (kind_of a) (body_of a)) true ≡ true → cond b (everywhere (leaves_ok Size wide) n (kind_of a) (body_of a)) true ≡ true
          → (length (cond b (take (header_of a) a ++ compact_body n (kind_of a) (body_of a)) a) ≡ length a) × (take (header_of a) (cond b (take (header_of a) a ++ compact_body n (kind_of a) (body_of a)) a) ≡ take (header_of a) a)
      go true f z =
          let x = take (header_of a) a in
          let y = compact_body n (kind_of a) (body_of a) in
          let l = length-take-le (header_of a) a h.0 in
          let d = length-drop (header_of a) a in
          let m = ih (kind_of a) (body_of a) (record { fills = f; sizes = z; low = omega (arith, d, h.1) }) in
          (omega (arith, length-append x y, l, m, d, h.0), take_at x y (header_of a) l)
      go false f z = (refl, refl)

  keeps_all : (n p : ℕ) → Same n → (l : List (List ℕ)) → Each Headed l → all (below filled n p) l ≡ true → all (below (leaves_ok Size wide) n p) l ≡ true → Each (Keeps p (compact_atom n p)) l
  unfolding all
  keeps_all n p ih [] h f z = tt
  keeps_all n p ih (a ∷ l) h f z =
      (keeps_one n p ih a h.0 (and_left _ _ f) (and_left _ _ z), keeps_all n p ih l h.1 (and_right (below filled n p a) _ f) (and_right (below (leaves_ok Size wide) n p a) _ z))

  rewritten : (n p : ℕ) → Same n → (s : List ℕ) → Sound (suc n) p s → Rewrites p (compact_atom n p) s
  unfolding everywhere
  rewritten n p ih s d =
      rewrites p (compact_atom n p) s (and_left _ _ d.fills)
      (keeps_all n p ih (atoms p s) (atoms_headed p s d.low) (and_right (filled p s) _ d.fills) (and_right (leaves_ok Size wide p s) _ d.sizes))

  pub tables_tight : (n : ℕ) (s : List ℕ) → Sound (suc n) stbl s → Each Tight (atoms stbl s)
  unfolding everywhere
  tables_tight n s d = all_tight wide (atoms stbl s) (atoms_headed stbl s d.low) (and_left _ _ d.sizes)

  same_next : (n : ℕ) → Same n → Same (suc n)
  unfolding compact_body written everywhere
  same_next n ih p s d = go (eqb p stbl) refl
    where
      go : (b : Bool) → eqb p stbl ≡ b → length (cond b (compact_tables s) (written p (compact_atom n p) s)) ≡ length s
      go true e =
          let q = eqb-true p stbl e in
          let d' : Sound (suc n) stbl s = rw q at d in
          tables_length s (and_left _ _ d'.fills) (tables_tight n s d') d'.low
      go false e = (rewritten n p ih s d).lengths

  pub body_length : (n : ℕ) → Same n
  unfolding compact_body
  body_length zero p s d = refl
  body_length (suc n) p s d = same_next n (body_length n) p s d

  -- its atoms, in a parent that is no stbl, and in an stbl
  pub body_atoms : (n p : ℕ) (s : List ℕ) → Sound (suc n) p s → eqb p stbl ≡ false → atoms p (compact_body (suc n) p s) ≡ map (compact_atom n p) (atoms p s)
  unfolding compact_body written
  body_atoms n p s d e = rw e (rewritten n p (body_length n) s d).pieces

  pub stbl_atoms : (n : ℕ) (s : List ℕ) → Sound (suc n) stbl s → atoms stbl (compact_body (suc n) stbl s) ≡ map compact_table (atoms stbl s) ++ free_atoms (freed_in s)
  unfolding compact_body everywhere
  stbl_atoms n s d = tables_atoms s (and_left _ _ d.fills) (tables_tight n s d) d.low

  -- below a container
  pub sound_into : (n p k i : ℕ) (s : List ℕ) → Sound (suc n) p s → container p k ≡ true → i < count_in p k s → Sound n k (body_in p k i s)
  sound_into n p k i s d c g = record {
    fills = everywhere_into filled n p k i s d.fills c g;
    sizes = everywhere_into (leaves_ok Size wide) n p k i s d.sizes c g;
    low = omega (arith, body_short p k i s, d.low);
  }
