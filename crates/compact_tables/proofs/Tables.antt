-- A table and a free atom, as they are written.
-- Assumes nothing.
use Prim.Native.Nat.{ℕ, ◌+◌, ◌-◌, ◌*◌, ◌/◌, ◌<◌, ◌≤◌}
use mathlib.Core.Path.{◌≡◌, refl, sym, ap, ◌∙◌}
use mathlib.Core.List.{List, [], ◌++◌, map, append_assoc, append-nil}
use native.Mathlib.Omega.{arith}
use lib.ListN.{length, take, drop, replicate, length-append, length-replicate, length-drop}
use lib.Seq.{sets, length-take-le}
use lib.Arith.{digits_div}
use borrow.Author.Tests.{lt-ltb, le-ltb, eq-eqb, ne_eqb}
use Rattle.bigendian.specs.BigEndian.{u32_at}
use Rattle.atoms.specs.Kinds.{stbl, stts, stsc}
use Rattle.atoms.specs.Atoms.{size_in, atoms}
use Rattle.atoms.proofs.Laws.{atoms_none, atoms_next}
use Rattle.lists.specs.Entries.{rows_of, entries}
use Rattle.byte_writing.specs.Bytes.{be32, joined}
use Rattle.compact_entries.specs.Entries.{compact_runs, compact_deals}
use Rattle.compact_tables.specs.Tables.{free, head_bytes, with_entries, free_atom, compact_table, compact_tables}
use Rattle.byte_writing.proofs.Writing.{head_last, be32_length}
use Rattle.compact_entries.proofs.Widths.{Wide, joined_length}

-- ---- the head of a table

pub flags_length : (a : List ℕ) → 16 ≤ length a → length (take 8 (drop 4 a)) ≡ 8
flags_length a h = length-take-le 8 (drop 4 a) (omega (arith, length-drop 4 a))

pub head_length : (a : List ℕ) (size count : ℕ) → 16 ≤ length a → length (head_bytes a size count) ≡ 16
unfolding head_bytes
head_length a size count h =
    let f = take 8 (drop 4 a) in
    omega (arith, length-append (be32 size) (f ++ be32 count), length-append f (be32 count), be32_length size, be32_length count, flags_length a h)

pub table_length : (a : List ℕ) (es : List (List ℕ)) → 16 ≤ length a → length (with_entries a es) ≡ 16 + length (joined es)
unfolding with_entries
table_length a es h = omega (arith, length-append (head_bytes a (16 + length (joined es)) (length es)) (joined es), head_length a (16 + length (joined es)) (length es) h)

-- the head stored after the entries, by their end
module _ (w : ℕ) (p : 0 < w) (a : List ℕ) (es : List (List ℕ)) (h : 16 ≤ length a) (wide : Wide w es) (at end : ℕ) (g : end ≡ at + 16 + length (joined es)) where
  pub count_is : (end - at - 16) / w ≡ length es
  count_is =
      let e : end - at - 16 ≡ length es * w + 0 = omega (arith, joined_length w es wide) in
      ap (λ (k : ℕ). k / w) e ∙ digits_div (length es) p

  pub table_written : (out out₁ out₂ : List ℕ) → out₁ ≡ sets out (at + 16) (joined es)
      → out₂ ≡ sets out₁ at (head_bytes a (end - at) ((end - at - 16) / w))
      → (end ≡ at + length (with_entries a es)) × (out₂ ≡ sets out at (with_entries a es))
  unfolding with_entries
  table_written out out₁ out₂ d e =
      let s : end - at ≡ 16 + length (joined es) = omega arith in
      let x = head_bytes a (16 + length (joined es)) (length es) in
      let l = head_length a (16 + length (joined es)) (length es) h in (
        omega (arith, length-append x (joined es), l),
        head_last out out₁ out₂ at (at + 16) x (joined es) (omega (arith, l)) d (e ∙ ap (λ (k : ℕ). sets out₁ at (head_bytes a (end - at) k)) count_is ∙ ap (λ (k : ℕ). sets out₁ at (head_bytes a k (length es))) s),
      )

pub entries_in : (head w : ℕ) (a t : List ℕ) → t ≡ drop head a → rows_of w t ≡ entries head w a
unfolding entries
entries_in head w a t e = ap (rows_of w) e

-- ---- which case of a table holds

module _ (a : List ℕ) where
  pub table_short : length a < 16 → compact_table a ≡ a
  unfolding compact_table
  table_short h = rw (lt-ltb (length a) 16 h)

  module _ (h : 16 ≤ length a) (k : ℕ) (e : k ≡ u32_at a 4) where
    pub table_runs : k ≡ stts → compact_table a ≡ with_entries a (compact_runs (entries 16 8 a))
    unfolding compact_table
    table_runs q = rw (le-ltb (length a) 16 h, ← e, eq-eqb k stts q)

    pub table_deals : (k ≡ stts → ⊥) → k ≡ stsc → compact_table a ≡ with_entries a (compact_deals (entries 16 12 a))
    unfolding compact_table
    table_deals n q = rw (le-ltb (length a) 16 h, ← e, ne_eqb k stts n, eq-eqb k stsc q)

    pub table_other : (k ≡ stts → ⊥) → (k ≡ stsc → ⊥) → compact_table a ≡ a
    unfolding compact_table
    table_other n q = rw (le-ltb (length a) 16 h, ← e, ne_eqb k stts n, ne_eqb k stsc q)

-- ---- a free atom

pub free_none : (n : ℕ) → n < 8 → free_atom n ≡ []
unfolding free_atom
free_none n h = rw (lt-ltb n 8 h)

pub free_some : (n : ℕ) → 8 ≤ n → free_atom n ≡ be32 n ++ (be32 free ++ replicate (n - 8) 0)
unfolding free_atom
free_some n h = rw (le-ltb n 8 h)

pub free_length : (n : ℕ) → 8 ≤ n → length (free_atom n) ≡ n
free_length n h =
    omega (arith, ap length (free_some n h), length-append (be32 n) (be32 free ++ replicate (n - 8) 0), length-append (be32 free) (replicate (n - 8) 0), be32_length n, be32_length free, length-replicate {A = ℕ} (n - 8) 0)

-- ---- the walk over an stbl

unfoldable pub tables_rest : List ℕ → List ℕ
tables_rest t = joined (map compact_table (atoms stbl t))

module _ (t : List ℕ) (z : ℕ) (e : z ≡ size_in stbl t) where
  pub tables_none : z < 8 → tables_rest t ≡ []
  unfolding tables_rest joined
  tables_none h = rw (atoms_none stbl t z e h)

  pub tables_next : 8 ≤ z → tables_rest t ≡ compact_table (take z t) ++ tables_rest (drop z t)
  unfolding tables_rest joined
  tables_next h = rw (atoms_next stbl t z e h)

pub tables_are : (s : List ℕ) → compact_tables s ≡ tables_rest s ++ free_atom (length s - length (tables_rest s))
unfolding compact_tables tables_rest
tables_are s = refl

-- a turn of the walk, what comes after the tables being f
pub next_table : (t : List ℕ) (z : ℕ) → z ≡ size_in stbl t → 8 ≤ z → (f : List ℕ) → tables_rest t ++ f ≡ compact_table (take z t) ++ (tables_rest (drop z t) ++ f)
next_table t z e h f = ap (λ x. x ++ f) (tables_next t z e h) ∙ append_assoc (compact_table (take z t)) (tables_rest (drop z t)) f

-- past the last table: what is left is the free atom
pub left_over : (t : List ℕ) (m u k at : ℕ) → tables_rest t ≡ [] → k + length (tables_rest t) ≡ at + u → tables_rest t ++ free_atom (m - u) ≡ free_atom (m - (k - at)) ++ []
left_over t m u k at n e =
    let q : k - at ≡ u = omega (arith, ap length n) in
    ap (λ x. x ++ free_atom (m - u)) n ∙ ap (λ (i : ℕ). free_atom (m - i)) (sym q) ∙ sym (append-nil (free_atom (m - (k - at))))
